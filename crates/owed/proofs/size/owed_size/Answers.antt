use Rattle.std.specs.Prelude.{None}
use Rattle.psl_tree.specs.Plain.{plain}
use Rattle.psl_tree.specs.Trees.{formula_of}
use Rattle.owed.proofs.Sizing.{owed-size}
use Rattle.owed.proofs.size.owed_size.Goals as goal
use Rattle.owed.specs.Owed.{plain_assumed}

pub returns : goal.returns
returns c = λ unit assumed. owed-size c.size_under.result unit c.args.directive.now
    (c.size_under.ensures (plain_assumed unit) (plain (formula_of c.args.directive.now.formula) None) assumed c.in_ok-size.ensures)
