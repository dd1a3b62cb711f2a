use Rattle.std.proofs.Common.{suc, ◌-◌, length}
use Rattle.cdcl.specs.Solving.{KeepsLog}
use Rattle.cdcl.proofs.solver.Solver.find_conflict.Given as goal

abbrev pub invariant-loop-conflict : goal.invariant-loop-conflict
invariant-loop-conflict l = KeepsLog l.fn.self l.self

abbrev pub decreases-loop-conflict : goal.decreases-loop-conflict
decreases-loop-conflict l = suc l.self.propagator.path.variables - length l.self.propagator.path.literals
