-- Directives that are numbered in order.
use Rattle.std.proofs.Common.{◌≡◌, ◌∙◌, refl, sym, ap, ℕ, zero, suc, ◌+◌, ◌<◌, Bool, true, false, cond, List, [], ◌∷◌, length, Some, arith}
use Rattle.std.specs.Prelude.{◌==◌, slice_get, slice_index_or}
use Rattle.std.specs.List.{find}
use Rattle.std.proofs.lemmas.Option.{slice_get-get_or}
use Rattle.owed.specs.Owed.{is_asked}
use Rattle.psl_tree.specs.declared.directive.Directive.{Directive}
use Rattle.psl_tree.specs.declared.directive.Kind.{Kind}
use Rattle.psl_tree.specs.declared.directive.Kind.TheVariants.{Assert, Assume, Cover}
use Rattle.findings.specs.Asked.{AreNumbered, IsAskedOf}

-- the first directive of a number stands at the place of the number
found-at : (from : ℕ) (unit : List Directive) → ((place : ℕ) (d : Directive) → slice_get unit place ≡ Some d → d.number ≡ from + place)
    → (place : ℕ) (d : Directive) → slice_get unit place ≡ Some d → find (λ (e : Directive). e.number == d.number) unit ≡ Some d
found-at from [] numbered place d at = absurd cc
found-at from (first ∷ rest) numbered zero d at =
    let same : first ≡ d = cc in
    let is : (first.number == d.number) ≡ true = grind (arith, ap (λ (e : Directive). e.number) same) in
    ap (λ (b : Bool). cond b (Some first) (find (λ (e : Directive). e.number == d.number) rest)) is ∙ at
found-at from (first ∷ rest) numbered (suc place) d at =
    let here : first.number ≡ from + 0 = numbered zero first refl in
    let there : d.number ≡ from + suc place = numbered (suc place) d at in
    let other : (first.number == d.number) ≡ false = grind (arith, here, there) in
    ap (λ (b : Bool). cond b (Some first) (find (λ (e : Directive). e.number == d.number) rest)) other
    ∙ found-at (suc from) rest (λ p e is. omega (arith, numbered (suc p) e is)) place d at

-- what is asked of a text is asked too where all covers are
asked-at-all : (covers : Bool) (kind : Kind) → is_asked covers kind ≡ true → is_asked true kind ≡ true
asked-at-all covers Assert is = refl
asked-at-all covers Assume is = is
asked-at-all covers Cover is = refl

-- the directive at a place of the text
at-place : (unit items : List Directive) (place : ℕ) (d : Directive) → items ≡ unit → place < length items → d ≡ slice_index_or items place d
    → slice_get unit place ≡ Some d
at-place unit items place d same lt is =
    ap (λ (ds : List Directive). slice_get ds place) (sym same) ∙ slice_get-get_or items place d lt ∙ ap Some (sym is)

pub is-asked-of : (covers : Bool) (unit items : List Directive) (place : ℕ) (d : Directive) → items ≡ unit → place < length items → d ≡ slice_index_or items place d
    → is_asked covers d.kind ≡ true → AreNumbered unit → IsAskedOf unit d
is-asked-of covers unit items place d same lt here kind numbered =
    let at = at-place unit items place d same lt here in
    record {
      is = found-at 1 unit (λ p e there. omega (arith, numbered p e there)) place d at;
      kind = asked-at-all covers d.kind kind;
      some = omega (arith, numbered place d at);
    }
