use Rattle.std.proofs.Common.{◌∙◌, arith}
use Rattle.joint.proofs.Paths.{first-step}
use Rattle.joint.proofs.path.first_bad.Goals as goal

pub loop-position-preserved : goal.loop-position-preserved
loop-position-preserved c =
    c.loop-position.invariant
    ∙ first-step c.args.values.now c.args.size c.args.place c.args.window c.loop-position.position (omega arith) c.if-values-position.false
