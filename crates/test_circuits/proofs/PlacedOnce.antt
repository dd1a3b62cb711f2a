-- The worked example is closed, and its placements are in form.
use Rattle.std.proofs.Common.{◌≡◌, ℕ, zero, suc, ◌<◌, inl, inr, List, [], sym, subst}
use Rattle.blif_flattening.specs.declared.model.Placement.{Placement}
use Rattle.blif_flattening.specs.declared.model.Item.TheVariants.{Place}
use Rattle.blif_flattening.specs.declared.model.Model.{Model}
use Rattle.blif_flattening.specs.Hierarchy.{items_of}
use Rattle.blif_flattening.specs.Members.{Among}
use Rattle.blif_hierarchy.specs.Drivers.{IsInForm}
use Rattle.test_circuits.specs.PlacedOnce.{worked}
use Rattle.blif_hierarchy.specs.First.{IsClosed}
use Rattle.blif_hierarchy.specs.Sums.{AreInForm}

only : (names placed model : ℕ) (placement : Placement) → Among (Place placement) (items_of (worked names placed) model)
    → placement ≡ record { model = placed; connections = [] }
only names placed zero placement (inl is) = (let same : ◌≡◌ {A = Placement} (record { model = placed; connections = [] }) placement = cc in sym same)
only names placed zero placement (inr none) = absurd none
only names placed (suc zero) placement none = absurd none
only names placed (suc (suc model)) placement none = absurd none

pub worked_closed : (models : List (Model ℕ)) (names placed : ℕ) → models ≡ worked names placed → placed < 2 → IsClosed models
worked_closed models names placed is less = subst (λ (ms : List (Model ℕ)). IsClosed ms) (sym is) closed
  where
    closed : IsClosed (worked names placed)
    closed model placement there =
        subst (λ (p : Placement). p.model < 2) (sym (only names placed model placement there)) less

pub worked_in_form : (models : List (Model ℕ)) (names placed : ℕ) → models ≡ worked names placed → AreInForm models
worked_in_form models names placed is = subst (λ (ms : List (Model ℕ)). AreInForm ms) (sym is) form
  where
    form : AreInForm (worked names placed)
    form model placement there =
        subst (λ (p : Placement). IsInForm (worked names placed) p) (sym (only names placed model placement there))
        (record { formals = λ connection none. absurd none; once = tt })
