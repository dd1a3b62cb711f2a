use Rattle.clauses.specs.declared.flat.TheConstants.{MOST_VARIABLES}
use Rattle.clauses.proofs.Within.{within-wider}
use Rattle.clauses.proofs.cnf.Cnf.push.Goals as goal

pub push-requires : goal.push-requires
push-requires c = within-wider c.args.self.now.variables MOST_VARIABLES c.args.self.now.few c.args.clause.now c.requires
