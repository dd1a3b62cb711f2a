-- What is told of paths.
use Rattle.std.specs.Prelude.{◌≡◌, ℤ, ◌<◌, List, length, All}
use Rattle.netlist.specs.Design.{Design}
use Rattle.prover_bmc.specs.declared.prefixes.Told.{Told}
use Rattle.prover_bmc.specs.declared.prefixes.Told.TheVariants as tolds
use Rattle.prover_held.specs.declared.walking.Choices.{Choices}

-- choices of a netlist's values, for one valuation at least
pub record AreChoices (design : Design) (choices : Choices) : Type 0 where
  pub some : 0 < length choices.inputs
  pub latches : length choices.latches ≡ length design.latches
  pub inputs : All (λ values. length values ≡ length design.inputs) choices.inputs

-- literals of the choices of a path: one for each latch, and for each of some valuations one for each input
pub record AreChosen (design : Design) (outputs : List ℤ) (frames : List (List ℤ)) : Type 0 where
  pub some : 0 < length frames
  pub latches : length outputs ≡ length design.latches
  pub inputs : All (λ literals. length literals ≡ length design.inputs) frames

-- a path that is told is given by choices
abbrev pub IsHint : Design → Told → Type 0
IsHint design (tolds.Path choices) = AreChoices design choices
IsHint design tolds.None = Unit {0}
IsHint design tolds.Nothing = Unit {0}
