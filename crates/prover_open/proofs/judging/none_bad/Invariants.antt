use Rattle.std.specs.Prelude.{IsTrue}
use Rattle.prover_open.specs.Open.{AreNotBad}
use Rattle.prover_open.proofs.judging.none_bad.Given as goal

abbrev pub invariant-loop-place : goal.invariant-loop-place
invariant-loop-place l = IsTrue l.none → AreNotBad l.place l.states
