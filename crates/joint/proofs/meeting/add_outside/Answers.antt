use Rattle.gates_theory.proofs.Within.{wider}
use Rattle.clauses.specs.declared.flat.TheConstants.{MOST_VARIABLES}
use Rattle.joint.proofs.Additions.{opposite-within}
use Rattle.joint.proofs.meeting.add_outside.Goals as goal

pub opposite-requires : goal.opposite-requires
opposite-requires c = wider c.args.cnf.now.variables MOST_VARIABLES c.args.cnf.now.few c.args.cube.now c.requires

pub add_clause-requires : goal.add_clause-requires
add_clause-requires c = rw (c.as_slice.ensures, c.in-Ok.ensures) (opposite-within c.args.cnf.now.variables c.args.cube.now c.requires)
