use Rattle.cdcl.specs.Reducing.{IsReduced}
use Rattle.cdcl.proofs.solver.Solver.reduce.Given as goal

abbrev pub invariant-loop-candidate : goal.invariant-loop-candidate
invariant-loop-candidate l = IsReduced l.fn.self l.self
