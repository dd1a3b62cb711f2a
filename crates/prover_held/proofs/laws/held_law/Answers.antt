use Rattle.prover_held.proofs.Accepting.{held-accepted}
use Rattle.prover_held.proofs.OneRun.{same-trace}
use Rattle.prover_held.proofs.SomeRun.{some-run}
use Rattle.prover_held.proofs.laws.held_law.Goals as goal

pub returns-clause-some : goal.returns-clause-some
returns-clause-some c design order path sound ordered is = some-run design order sound ordered path is

pub returns-clause-one : goal.returns-clause-one
returns-clause-one c design order path first second place sound ordered is one two =
    same-trace design order sound ordered path is.some first second one two place

pub returns-clause-accepts : goal.returns-clause-accepts
returns-clause-accepts c design automaton path run sound good tests is found held = held-accepted design automaton path run good tests is.some found held
