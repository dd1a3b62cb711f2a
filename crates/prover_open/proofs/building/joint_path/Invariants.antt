use Rattle.prover_open.specs.Standing.{StandAlong}
use Rattle.prover_open.proofs.building.joint_path.Given as goal

abbrev pub invariant-loop-place : goal.invariant-loop-place
invariant-loop-place l = StandAlong l.reading.netlist.now l.reading.automaton.now l.reading.path.now l.place l.states
