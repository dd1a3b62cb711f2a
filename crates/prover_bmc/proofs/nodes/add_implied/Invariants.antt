use Rattle.std.proofs.Common.{drop, IsTrue}
use Rattle.clauses.specs.declared.flat.TheConstants.{MOST_VARIABLES}
use Rattle.clauses.specs.Literals.{clauses_within}
use Rattle.prover_bmc.proofs.nodes.add_implied.Given as goal

abbrev pub invariant-loop-cube : goal.invariant-loop-cube
invariant-loop-cube l = IsTrue (clauses_within MOST_VARIABLES (drop l.cube-index l.cubes))
