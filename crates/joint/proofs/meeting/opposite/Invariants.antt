use Rattle.std.proofs.Common.{◌≡◌, ◌++◌, map, neg_ℤ, drop, IsTrue}
use Rattle.clauses.specs.declared.flat.TheConstants.{MOST_VARIABLES}
use Rattle.clauses.specs.Literals.{clause_within}
use Rattle.joint.proofs.meeting.opposite.Given as goal

abbrev pub invariant-loop-i : goal.invariant-loop-i
invariant-loop-i l = record {
  so_far : l.opposite ++ map neg_ℤ (drop l.i l.literals) ≡ map neg_ℤ l.literals;
  within : IsTrue (clause_within MOST_VARIABLES (drop l.i l.literals));
}
