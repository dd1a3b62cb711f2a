use Rattle.alternating.proofs.Alike.{unlike-owed}
use Rattle.alternating.proofs.merge.same_delta.Goals as goal
use Rattle.alternating.specs.Supposed.{class_of}
use Rattle.alternating.specs.Views.{positive_of}
use Rattle.alternating_theory.specs.Positive.{renumbered}

pub returns-else-alike : goal.returns-else-alike
returns-else-alike c =
    unlike-owed (renumbered (class_of c.args.classes.now) (positive_of c.args.left.now)) (renumbered (class_of c.args.classes.now) (positive_of c.args.right.now))
    c.owe_alike-alike.result c.owe_alike-alike.ensures c.if-alike.false
