-- The worked example can be flattened.
use Rattle.std.proofs.Common.{◌≡◌, ℕ, zero, suc, ◌<◌, ◌≤◌, ◌^◌, inl, inr, List, [], ◌∷◌, length, refl, sym, subst, arith}
use Rattle.blif_flattening.specs.declared.model.Item.TheVariants.{Own, Place}
use Rattle.blif_flattening.specs.declared.model.Model.{Model}
use Rattle.blif_flattening.specs.declared.model.Placement.{Placement}
use Rattle.blif_flattening.specs.Hierarchy.{items_of, flat_lines}
use Rattle.blif_flattening.specs.Instances.{names_of, IsNamed}
use Rattle.blif_flattening.specs.Members.{Among}
use Rattle.blif_flattening.specs.Numbers.{signals}
use Rattle.blif_model.specs.declared.line.ModelLine.{ModelLine}
use Rattle.test_circuits.specs.OneLatch.{latch_line, worked, worked_texts}
use Rattle.blif_flat.specs.Flat.{texts_at}
use Rattle.blif_flat.specs.Lines.{mentions_of}

only-line : (model : ℕ) (line : ModelLine) → Among (Own line) (items_of worked model) → (line ≡ latch_line) × (model ≡ 0)
only-line zero line (inl is) = (let same : latch_line ≡ line = cc in (sym same, let none : 0 ≡ 0 = omega arith in none))
only-line zero line (inr none) = absurd none
only-line (suc model) line none = absurd none

below : (name : ℕ) → Among name (0 ∷ 1 ∷ []) → name < 2
below name (inl here) = omega (arith, here)
below name (inr (inl here)) = omega (arith, here)
below name (inr (inr none)) = absurd none

no-placement : (model : ℕ) (placement : Placement) → Among (Place placement) (items_of worked model) → ⊥
no-placement zero placement (inl is) = cc
no-placement zero placement (inr none) = none
no-placement (suc model) placement none = none

is-named : IsNamed mentions_of worked
is-named = record {
  lines = λ model line there name mention.
      let only = only-line model line there in
      subst (λ m. name < names_of worked m) (sym only.1) (below name (subst (λ (l : ModelLine). Among name l.mentions) only.0 mention));
  actuals = λ model placement there formal actual is. absurd (no-placement model placement there);
}

pub worked_named : (models : List (Model ModelLine)) → models ≡ worked → IsNamed mentions_of models
worked_named models is = subst (λ (ms : List (Model ModelLine)). IsNamed mentions_of ms) (sym is) is-named

pub worked_room : (models : List (Model ModelLine)) → models ≡ worked → length (signals mentions_of models) ≤ 2 ^ 32
unfolding flat_lines
worked_room models is =
    let two : length (signals mentions_of worked) ≡ 2 = refl in
    subst (λ (ms : List (Model ModelLine)). length (signals mentions_of ms) ≤ 2 ^ 32) (sym is) (omega (arith, two))

titled : (model : ℕ) → length (texts_at worked_texts model) ≡ names_of worked model
titled zero = refl
titled (suc model) = refl

pub worked_titled : (models : List (Model ModelLine)) (texts : List (List (List ℕ))) → models ≡ worked → texts ≡ worked_texts
    → (model : ℕ) → length (texts_at texts model) ≡ names_of models model
worked_titled models texts is these model = rw (is, these) (titled model)
