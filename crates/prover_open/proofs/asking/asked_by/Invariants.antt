use Rattle.std.proofs.Common.{◌≡◌, ℕ, take, length}
use Rattle.joint_theory.specs.States.{is_asked}
use Rattle.netlist.specs.Valuations.{bit}
use Rattle.prover_held.specs.Lasting.{letter_in}
use Rattle.prover_open.proofs.asking.asked_by.Given as goal

abbrev pub invariant-loop-number : goal.invariant-loop-number
invariant-loop-number l = record {
  long : length l.asked ≡ length l.reading.automaton.now.obligations;
  each : (number : ℕ) → bit l.asked number ≡ is_asked l.reading.automaton.now (letter_in l.reading.netlist.now l.reading.path.now l.place) (take l.number-index l.numbers) number;
}
