use Rattle.std.proofs.Common.{◌≡◌, ℕ, ◌<◌, false, length, get_or}
use Rattle.netlist.specs.declared.latch.Latch.{Latch}
use Rattle.prover_held.specs.Choices.{IsFirst}
use Rattle.prover_held.proofs.walking.first_values.Given as goal

abbrev pub invariant-loop-place : goal.invariant-loop-place
invariant-loop-place l = record {
  size : length l.values ≡ l.place;
  begin : (place : ℕ) (other : Latch) → place < l.place → IsFirst (get_or l.latches place other).init (get_or l.chosen place false) (get_or l.values place false);
}
