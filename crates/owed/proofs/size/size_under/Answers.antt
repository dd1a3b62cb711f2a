use Rattle.psl_tree.specs.Trees.{And}
use Rattle.owed.proofs.Sizing.{sized-under}
use Rattle.owed.proofs.size.size_under.Goals as goal
use Rattle.owed.specs.Owed.{broken}

pub returns-in-Some : goal.returns-in-Some
returns-in-Some c = λ formulas formula are is.
    sized-under c.in-Some.assumed c.negation.result formulas c.args.kind formula
    (rw c.in-Some.is at are)
    (λ others sized. c.negation.ensures (And others (broken c.args.kind formula))
    (c.conjunction.ensures others (broken c.args.kind formula) sized (c.broken.ensures formula is)))
