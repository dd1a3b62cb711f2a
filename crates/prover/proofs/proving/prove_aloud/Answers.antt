use Rattle.std.proofs.lemmas.Result.{err_from_is_err_and}
use Rattle.prover.proofs.Voicing.{told-none}
use Rattle.prover.proofs.proving.prove_aloud.Goals as goal
use Rattle.prover.specs.Milestones.{IsMilestoneFor}

pub left_open-requires-clause-told : goal.left_open-requires-clause-told
left_open-requires-clause-told g c = told-none (IsMilestoneFor c.args.task) (g.W.Wording.line c.args.wording.now c.args.task.directive.now)
    (g.E.Sink.state c.args.err.now)

pub returns-in_err-claim-clause-fault : goal.returns-in_err-claim-clause-fault
returns-in_err-claim-clause-fault g c =
    let p = err_from_is_err_and c.from_residual.result c.from_residual.ensures.1 in
    rw (p.1, p.2) (told-none (IsMilestoneFor c.args.task) (g.W.Wording.line c.args.wording.now c.args.task.directive.now)
    (g.E.Sink.state c.args.err.now))
