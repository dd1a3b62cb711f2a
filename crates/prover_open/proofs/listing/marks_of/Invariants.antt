use Rattle.std.proofs.Common.{◌≡◌, ℕ, take, length}
use Rattle.joint_theory.specs.States.{is_listed}
use Rattle.netlist.specs.Valuations.{bit}
use Rattle.prover_open.proofs.listing.marks_of.Given as goal

abbrev pub invariant-loop-number : goal.invariant-loop-number
invariant-loop-number l = record {
  long : length l.marks ≡ l.count;
  each : (number : ℕ) → bit l.marks number ≡ is_listed (take l.number-index l.numbers) number;
}
