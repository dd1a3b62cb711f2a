use Rattle.std.proofs.Common.{take}
use Rattle.std.specs.Prelude.{IsTrue}
use Rattle.joint_theory.specs.States.{AreMet}
use Rattle.netlist.specs.Valuations.{bit}
use Rattle.prover_held.specs.Lasting.{letter_in}
use Rattle.prover_open.proofs.meeting.are_met.Given as goal

abbrev pub invariant-loop-number : goal.invariant-loop-number
invariant-loop-number l = IsTrue l.met → AreMet l.reading.automaton.now (letter_in l.reading.netlist.now l.reading.path.now l.place) (bit l.next) (take l.number-index l.numbers)
