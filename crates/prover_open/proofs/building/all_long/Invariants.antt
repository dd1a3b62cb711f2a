use Rattle.std.specs.Prelude.{IsTrue}
use Rattle.prover_open.specs.Standing.{AreLong}
use Rattle.prover_open.proofs.building.all_long.Given as goal

abbrev pub invariant-loop-place : goal.invariant-loop-place
invariant-loop-place l = IsTrue l.long → AreLong l.place l.count l.hints
