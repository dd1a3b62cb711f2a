use Rattle.std.proofs.Common.{◌≡◌, ℕ, ℤ, Bool, List, length}
use Rattle.std.specs.List.{All}
use Rattle.prover_bmc.proofs.choices.all_values_of.Given as goal

abbrev pub invariant-loop-frame : goal.invariant-loop-frame
invariant-loop-frame l = record {
  size : length l.all ≡ l.frame-index;
  each : (count : ℕ) → All (λ (literals : List ℤ). length literals ≡ count) l.frames → All (λ (bits : List Bool). length bits ≡ count) l.all;
}
