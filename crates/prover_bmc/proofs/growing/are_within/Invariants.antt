use Rattle.std.proofs.Common.{take, IsTrue}
use Rattle.clauses.specs.Literals.{clause_within}
use Rattle.prover_bmc.proofs.growing.are_within.Given as goal

abbrev pub invariant-loop-literal : goal.invariant-loop-literal
invariant-loop-literal l = IsTrue (clause_within l.variables (take l.literal-index l.literals))
