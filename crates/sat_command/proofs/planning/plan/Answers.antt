use Rattle.sat_command.proofs.planning.plan.Goals as goal

pub returns-clause-answered : goal.returns-clause-answered
returns-clause-answered g c = rw c.in-Some.is (rw c.in_ok-planned.ensures.answer c.in_ok-answer.ensures.ok)
