-- What is so of each hierarchy that is driven: it has no more signals than the sum says, and each is driven just once.
use Rattle.std.specs.Prelude.{◌≡◌, ℕ, ◌<◌, ◌≤◌, List, length}
use Rattle.blif_flattening.specs.declared.model.Model.{Model}
use Rattle.blif_flattening.specs.Instances.{IsNamed}
use Rattle.blif_flattening.specs.Members.{Among}
use Rattle.blif_flattening.specs.Numbers.{signals}
use Rattle.blif_flattening.specs.Trees.{IsWhole}
use Rattle.blif_hierarchy.specs.Drivers.{IsDriven, driven_numbers, times}
use Rattle.blif_hierarchy.specs.Sums.{signal_count}

-- there are no more signals than are counted
abbrev pub HasFewSignals : {Line : Type 0} → (Line → List ℕ) → List (Model Line) → Type 0
HasFewSignals mentions models =
    IsWhole mentions models → IsNamed mentions models → length (signals mentions models) ≤ signal_count models

-- what lines list as inputs and what they drive are names that they mention
pub record AreMentioned {Line : Type 0} (mentions inputs drives : Line → List ℕ) : Type 0 where
  pub listed : (line : Line) (name : ℕ) → Among name (inputs line) → Among name (mentions line)
  pub driven : (line : Line) (name : ℕ) → Among name (drives line) → Among name (mentions line)

-- the inputs of the top and the flat lines drive each signal just once
abbrev pub IsDrivenOnce : {Line : Type 0} → (Line → List ℕ) → List (Model Line) → Type 0
IsDrivenOnce {Line} mentions models =
    IsWhole mentions models → IsNamed mentions models → (inputs drives : Line → List ℕ)
    → AreMentioned mentions inputs drives → IsDriven inputs drives models
    → (signal : ℕ) → signal < length (signals mentions models) → times signal (driven_numbers mentions inputs drives models) ≡ 1

-- and nothing else
abbrev pub DrivesSignals : {Line : Type 0} → (Line → List ℕ) → List (Model Line) → Type 0
DrivesSignals {Line} mentions models =
    IsWhole mentions models → (inputs drives : Line → List ℕ) → AreMentioned mentions inputs drives
    → (signal : ℕ) → length (signals mentions models) ≤ signal → times signal (driven_numbers mentions inputs drives models) ≡ 0
