-- Directives that are equal but for where the program keeps their parts are judged alike.
use Rattle.std.proofs.Common.{◌≡◌, refl, sym, ◌∙◌, ap, subst, ℕ, zero, suc, ◌≤◌, ◌==◌, Bool, true, false, cond, List, [], ◌∷◌, map, take, Option, None, Some}
use Rattle.std.specs.Prelude.{All, slice_get}
use Rattle.std.specs.List.{find}
use Rattle.std.specs.Option.{option_map}
use Rattle.std.proofs.lemmas.List.{take-map}
use Rattle.std.proofs.lemmas.List.Elements.{All-nil, All-cons, All-head, All-tail}
use Rattle.alternating.specs.Limits.{HasLargeSequence, PassesFirst}
use Rattle.psl_base.specs.declared.place.Place.{Place}
use Rattle.psl_layer_theory.specs.Answers.{Numbered, directive_of}
use Rattle.psl_tree.specs.Plain.{plain}
use Rattle.psl_tree.specs.Counts.{obligations_of}
use Rattle.psl_tree.specs.Trees.{Formula}
use Rattle.psl_tree.specs.declared.directive.Directive.{Directive}
use Rattle.commands.specs.Diagnostics.{directive_place, judge_diagnostic, limit_reason}
use Rattle.commands.specs.declared.reason.Diagnostic.{Diagnostic}
use Rattle.commands.specs.declared.reason.Reason.{Reason}
use Rattle.wave_judge.specs.Faults.{unclocked, IsJudgeable, IsRefused, IsFirstRefused}
use Rattle.psl_tree.specs.declared.limit.Limit.{Limit}
use Rattle.psl_tree.specs.declared.limit.UnitFault.{UnitFault}
use Rattle.psl_tree.specs.declared.limit.UnitFault.TheVariants as units

abbrev pub SameUnit : List Directive → List Directive → Type 0
SameUnit u v = map directive_of u ≡ map directive_of v

same-unclocked : (d e : Directive) → directive_of d ≡ directive_of e → unclocked d ≡ unclocked e
same-unclocked d e s = ap (λ (n : Numbered). plain n.formula None) s

same-judgeable : (d e : Directive) → directive_of d ≡ directive_of e → IsJudgeable d → IsJudgeable e
same-judgeable d e s j = record {
  sequences = λ h. j.sequences (subst HasLargeSequence (sym (same-unclocked d e s)) h);
  obligations = subst (λ (f : Formula). obligations_of f ≤ 2048) (same-unclocked d e s) j.obligations;
}

same-refused : (d e : Directive) (number : ℕ) (limit : Limit) → directive_of d ≡ directive_of e → IsRefused d number limit → IsRefused e number limit
same-refused d e number limit s r =
    (r.0 ∙ ap (λ (x : Numbered). x.number) s, subst (λ (f : Formula). PassesFirst f limit) (same-unclocked d e s) r.1)

pub heads : (d e : Directive) (u v : List Directive) → SameUnit (d ∷ u) (e ∷ v) → directive_of d ≡ directive_of e
heads d e u v s = cc

pub tails : (d e : Directive) (u v : List Directive) → SameUnit (d ∷ u) (e ∷ v) → SameUnit u v
tails d e u v s = cc

pub none-some : (d : Directive) (u : List Directive) → map directive_of [] ≡ map directive_of (d ∷ u) → ⊥
none-some d u s = cc

pub all-judgeable : (u v : List Directive) → SameUnit u v → All IsJudgeable u → All IsJudgeable v
all-judgeable [] [] s a = All-nil IsJudgeable
all-judgeable [] (e ∷ v) s a = absurd (none-some e v s)
all-judgeable (d ∷ u) [] s a = absurd (none-some d u (sym s))
all-judgeable (d ∷ u) (e ∷ v) s a =
    All-cons IsJudgeable e v (same-judgeable d e (heads d e u v s) (All-head IsJudgeable d u a)) (all-judgeable u v (tails d e u v s) (All-tail IsJudgeable d u a))

pub same-take : (n : ℕ) (u v : List Directive) → SameUnit u v → SameUnit (take n u) (take n v)
same-take n u v s = sym (take-map directive_of n u) ∙ ap (take n) s ∙ take-map directive_of n v

-- the directive at the same place
pub there : (n : ℕ) (u v : List Directive) (d : Directive) → SameUnit u v → slice_get u n ≡ Some d → (e : Directive) × (slice_get v n ≡ Some e) × (directive_of d ≡ directive_of e)
there n [] v d s is = absurd (let wrong : None ≡ Some d = is in cc)
there n (x ∷ u) [] d s is = absurd (none-some x u (sym s))
there zero (x ∷ u) (y ∷ v) d s is = (y, refl, (let same : x ≡ d = cc in subst (λ (a : Directive). directive_of a ≡ directive_of y) same (heads x y u v s)))
there (suc n) (x ∷ u) (y ∷ v) d s is = there n u v d (tails x y u v s) is

pub same-first : (u v : List Directive) (number : ℕ) (limit : Limit) → SameUnit u v → IsFirstRefused u number limit → IsFirstRefused v number limit
same-first u v number limit s first =
    let at = there first.place u v first.directive s first.here in record {
      place = first.place;
      directive = at.0;
      here = at.1;
      before = all-judgeable (take first.place u) (take first.place v) (same-take first.place u v s) first.before;
      refused = same-refused first.directive at.0 number limit at.2 first.refused;
    }

-- the place of a directive, by its number

abbrev numbered_place : List Numbered → ℕ → Option Place
numbered_place [] number = None
numbered_place (x ∷ xs) number = cond (x.number == number) (Some x.place) (numbered_place xs number)

place-numbered : (u : List Directive) (number : ℕ) → directive_place u number ≡ numbered_place (map directive_of u) number
place-numbered [] number = refl
place-numbered (d ∷ u) number = by (d.number == number) (place-numbered u number)
  where
    by : (b : Bool) → directive_place u number ≡ numbered_place (map directive_of u) number
        → option_map (λ (x : Directive). x.place) (cond b (Some d) (find (λ (x : Directive). x.number == number) u)) ≡ cond b (Some d.place) (numbered_place (map directive_of u) number)
    by true h = refl
    by false h = h

pub same-place : (u v : List Directive) (number : ℕ) → SameUnit u v → directive_place u number ≡ directive_place v number
same-place u v number s = place-numbered u number ∙ ap (λ (all : List Numbered). numbered_place all number) s ∙ sym (place-numbered v number)

abbrev said-of : Reason → Option Place → Diagnostic
said-of reason place = record { reason = reason; place = place }

pub same-said : (u v : List Directive) (fault : UnitFault) → SameUnit u v → judge_diagnostic u fault ≡ judge_diagnostic v fault
same-said u v (units.TooLarge n limit) s = ap (said-of (limit_reason limit)) (same-place u v n s)
same-said u v units.NoMemory s = refl
