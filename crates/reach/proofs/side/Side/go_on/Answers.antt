use Rattle.std.proofs.Common.{subst}
use Rattle.reach.specs.Answers.{IsReached}
use Rattle.reach.specs.Searched.{Searched}
use Rattle.reach.proofs.side.Side.go_on.Goals as goal

pub returns-in_ok-end_of-in-Err-clause-reached : goal.returns-in_ok-end_of-in-Err-clause-reached
returns-in_ok-end_of-in-Err-clause-reached c =
    subst (λ (s : Searched). IsReached s.joined s.most s.steps c.in_ok-end_of-in-Err.field-0) c.self.view_is
    (c.in_ok-end_of-in-Err.ensures c.self.inside.machine.joint.now c.self.inside.most c.self.inside.machine.steps c.in-Err.ensures.stopped)
