use Rattle.reach.proofs.Loops.{pushed-next}
use Rattle.reach.proofs.question.copy_of.Goals as goal

pub loop-place-preserved : goal.loop-place-preserved
loop-place-preserved c =
    pushed-next c.args.clauses.now c.loop-place.place c.at.result.now c.loop-place.new c.push.new.self c.at.ensures.is
    c.loop-place.invariant c.in-Ok.ensures.ok
