-- The valuations of a run for ever.
use Rattle.std.proofs.Common.{◌≡◌, ◌∙◌, ap, ℕ, ◌-◌, ◌%◌, ◌<◌, ◌≤◌, Bool, List, [], length, inl, inr}
use Rattle.std.specs.Prelude.{nat_lt, slice_index_or}
use Rattle.std.proofs.lemmas.Bool.{cases_lt, cond-true, cond-false, le-ltb, lt-ltb}
use Rattle.std.proofs.lemmas.Nat.{mod_below}
use Rattle.netlist.specs.Design.{Design}
use Rattle.netlist.specs.Runs.{IsMade}
use Rattle.netlist.specs.declared.run.Run.{Run}
use Rattle.trace.specs.Trace.{valuation_in}

pub in-stem : (run : Run) (place : ℕ) → place < length run.stem → valuation_in run place ≡ slice_index_or run.stem place []
in-stem run place within = cond-true (nat_lt place (length run.stem)) _ _ (lt-ltb place (length run.stem) within)

pub in-loop : (run : Run) (place : ℕ) → length run.stem ≤ place → valuation_in run place ≡ slice_index_or run.loop_part ((place - length run.stem) % length run.loop_part) []
in-loop run place past = cond-false (nat_lt place (length run.stem)) _ _ (le-ltb place (length run.stem) past)

-- each of them has a value for each signal
pub sized : (design : Design) (run : Run) → IsMade design run → (place : ℕ) → length (valuation_in run place) ≡ design.signals
sized design run is place = elim (cases_lt place (length run.stem)) [
  | inl within ↦ ap (λ (v : List Bool). length v) (in-stem run place within) ∙ (is.stem place [] within).size
  | inr past ↦
      ap (λ (v : List Bool). length v) (in-loop run place past)
      ∙ (is.looped ((place - length run.stem) % length run.loop_part) [] (mod_below (place - length run.stem) (length run.loop_part) is.loops)).size
]
