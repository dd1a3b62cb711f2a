use Rattle.std.proofs.Common.{◌≡◌, ℕ, ◌<◌, ◌&&◌, ◌||◌, length}
use Rattle.joint_theory.specs.States.{is_accepting}
use Rattle.netlist.specs.Valuations.{bit}
use Rattle.prover_open.proofs.listing.meeting_marks.Given as goal

abbrev pub invariant-loop-number : goal.invariant-loop-number
invariant-loop-number l = record {
  long : length l.marks ≡ l.number;
  each : (k : ℕ) → k < l.number → bit l.marks k ≡ (bit l.owed k && (is_accepting l.automaton k || bit l.pending k));
}
