use Rattle.std.proofs.Common.{◌≡◌, ◌∷◌, ◌++◌, neg_ℤ, map, drop, IsTrue}
use Rattle.clauses.specs.declared.flat.TheConstants.{MOST_VARIABLES}
use Rattle.clauses.specs.Literals.{clause_within}
use Rattle.prover_bmc.proofs.nodes.implication.Given as goal

abbrev pub invariant-loop-i : goal.invariant-loop-i
invariant-loop-i l = record {
  so_far : l.clause ++ map neg_ℤ (drop l.i l.cube) ≡ l.literal ∷ map neg_ℤ l.cube;
  within : IsTrue (clause_within MOST_VARIABLES (drop l.i l.cube));
}
