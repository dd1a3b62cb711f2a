use Rattle.std.proofs.Common.{◌≡◌, true, take}
use Rattle.clauses.specs.Literals.{clause_within}
use Rattle.test_formulas.proofs.reaching.are_within.Given as goal

abbrev pub invariant-loop-literal : goal.invariant-loop-literal
invariant-loop-literal l = clause_within l.variables (take l.literal-index l.literals) ≡ true
