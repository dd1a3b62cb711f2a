use Rattle.std.proofs.Common.{drop, IsTrue}
use Rattle.clauses.specs.Literals.{clauses_within}
use Rattle.gates_nodes.specs.Clauses.{implied}
use Rattle.gates_formula.proofs.Additions.{AddsSoFar}
use Rattle.gates_formula.proofs.implied.add_implied.Given as goal

abbrev pub invariant-loop-cube : goal.invariant-loop-cube
invariant-loop-cube l = record {
  so_far : AddsSoFar l.initial.cnf l.cnf (implied l.literal (drop l.cube-index l.cubes)) (implied l.literal l.cubes);
  within : IsTrue (clauses_within l.initial.cnf.variables (drop l.cube-index l.cubes));
}
