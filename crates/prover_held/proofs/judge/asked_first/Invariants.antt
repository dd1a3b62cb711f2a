use Rattle.std.proofs.Common.{◌-◌, length}
use Rattle.netlist.specs.Valuations.{bit}
use Rattle.prover_held.specs.Judged.{AreAsked}
use Rattle.prover_held.proofs.judge.asked_first.Given as goal

abbrev pub invariant-loop-place : goal.invariant-loop-place
invariant-loop-place l = AreAsked l.netlist l.automaton l.path (bit l.kept) (length l.path - l.place) l.found
