-- Of directives that are equal but for where the program keeps their parts, the same is owed, and the same directive is
-- the first that is too large.
use Rattle.std.proofs.Common.{◌≡◌, refl, sym, ◌∙◌, ap, subst, ℕ, Bool, cond, List, [], ◌∷◌, take, None}
use Rattle.std.specs.Prelude.{All}
use Rattle.std.proofs.lemmas.List.Elements.{All-nil, All-cons, All-head, All-tail}
use Rattle.alternating_theory.specs.Built.{built}
use Rattle.alternating_theory.specs.Dual.{opposite_automaton}
use Rattle.findings.specs.Sizes.{AreWithin, IsFirstRefused, IsRefused, IsWithin}
use Rattle.netlist.specs.Design.{Design}
use Rattle.owed.specs.Owed.{assumptions, conjunction, is_asked, is_assumption, plain_owed, under}
use Rattle.owed.specs.Violations.{violation_of}
use Rattle.owed.specs.Sized as sized
use Rattle.owed.specs.Sized.{IsSized}
use Rattle.psl_tree.specs.declared.limit.Limit.{Limit}
use Rattle.psl_layer_theory.specs.Answers.{Numbered, directive_of}
use Rattle.psl_tree.specs.Plain.{plain}
use Rattle.psl_tree.specs.Trees.{Formula, formula_of}
use Rattle.psl_tree.specs.declared.directive.Directive.{Directive}
use Rattle.psl_tree.specs.declared.directive.Kind.{Kind}
use Rattle.commands.proofs.SameUnits.{SameUnit, heads, none-some, same-take, tails, there}

pub same-kind : (d e : Directive) → directive_of d ≡ directive_of e → d.kind ≡ e.kind
same-kind d e s = ap (λ (n : Numbered). n.kind) s

same-formula : (d e : Directive) → directive_of d ≡ directive_of e → formula_of d.formula ≡ formula_of e.formula
same-formula d e s = ap (λ (n : Numbered). n.formula) s

same-assumptions : (u v : List Directive) → SameUnit u v → assumptions u ≡ assumptions v
same-assumptions [] [] s = refl
same-assumptions [] (e ∷ v) s = absurd (none-some e v s)
same-assumptions (d ∷ u) [] s = absurd (none-some d u (sym s))
same-assumptions (d ∷ u) (e ∷ v) s =
    let same = heads d e u v s in
    ap (λ (k : Kind). cond (is_assumption k) (formula_of d.formula ∷ assumptions u) (assumptions u)) (same-kind d e same)
    ∙ ap (λ (f : Formula). cond (is_assumption e.kind) (f ∷ assumptions u) (assumptions u)) (same-formula d e same)
    ∙ ap (λ (fs : List Formula). cond (is_assumption e.kind) (formula_of e.formula ∷ fs) fs) (same-assumptions u v (tails d e u v s))

pub same-owed : (u v : List Directive) (d e : Directive) → SameUnit u v → directive_of d ≡ directive_of e → plain_owed u d ≡ plain_owed v e
same-owed u v d e s same =
    ap (λ (fs : List Formula). plain (under (conjunction fs) d.kind (formula_of d.formula)) None) (same-assumptions u v s)
    ∙ ap (λ (k : Kind). plain (under (conjunction (assumptions v)) k (formula_of d.formula)) None) (same-kind d e same)
    ∙ ap (λ (f : Formula). plain (under (conjunction (assumptions v)) e.kind f) None) (same-formula d e same)

-- so are the words that violate it
pub same-violation : (u v : List Directive) (d e : Directive) → SameUnit u v → directive_of d ≡ directive_of e → violation_of u d ≡ violation_of v e
same-violation u v d e s same = ap (λ (f : Formula). opposite_automaton (built f)) (same-owed u v d e s same)

module _ (design : Design) (depth : ℕ) (covers : Bool) (u v : List Directive) (s : SameUnit u v) where
  same-within : (d e : Directive) → directive_of d ≡ directive_of e → IsWithin design depth covers u d → IsWithin design depth covers v e
  same-within d e same w is =
      subst (IsSized design depth) (same-owed u v d e s same) (w (ap (is_asked covers) (same-kind d e same) ∙ is))

  all-within : (us vs : List Directive) → SameUnit us vs → All (IsWithin design depth covers u) us → All (IsWithin design depth covers v) vs
  all-within [] [] same a = All-nil (IsWithin design depth covers v)
  all-within [] (e ∷ vs) same a = absurd (none-some e vs same)
  all-within (d ∷ us) [] same a = absurd (none-some d us (sym same))
  all-within (d ∷ us) (e ∷ vs) same a =
      All-cons (IsWithin design depth covers v) e vs (same-within d e (heads d e us vs same) (All-head (IsWithin design depth covers u) d us a))
      (all-within us vs (tails d e us vs same) (All-tail (IsWithin design depth covers u) d us a))

  pub are-within : AreWithin design depth covers u → AreWithin design depth covers v
  are-within a = all-within u v s a

  same-refused : (d e : Directive) (number : ℕ) (limit : Limit) → directive_of d ≡ directive_of e → IsRefused design depth u d number limit
      → IsRefused design depth v e number limit
  same-refused d e number limit same r = (
    r.0 ∙ ap (λ (n : Numbered). n.number) same,
    subst (λ (f : Formula). sized.IsRefused design depth f limit) (same-owed u v d e s same) r.1,
  )

  pub same-first-refused : (number : ℕ) (limit : Limit) → IsFirstRefused design depth covers u number limit → IsFirstRefused design depth covers v number limit
  same-first-refused number limit first =
      let at = there first.place u v first.directive s first.here in record {
        place = first.place;
        directive = at.0;
        here = at.1;
        is = ap (is_asked covers) (sym (same-kind first.directive at.0 at.2)) ∙ first.is;
        before = all-within (take first.place u) (take first.place v) (same-take first.place u v s) first.before;
        refused = same-refused first.directive at.0 number limit at.2 first.refused;
      }
