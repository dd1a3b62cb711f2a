use Rattle.std.specs.Prelude.{IsTrue}
use Rattle.prover_open.specs.Open.{AreDifferent}
use Rattle.prover_open.proofs.judging.all_differ.Given as goal

abbrev pub invariant-loop-later : goal.invariant-loop-later
invariant-loop-later l = IsTrue l.different → AreDifferent l.later l.states
