use Rattle.std.specs.Prelude.{IsTrue}
use Rattle.clauses.specs.Literals.{clauses_within}
use Rattle.reach.proofs.leading.units_of.Given as goal

abbrev pub invariant-loop-place : goal.invariant-loop-place
invariant-loop-place l = IsTrue (clauses_within l.variables l.units)
