use Rattle.std.proofs.Common.{suc, ◌-◌, length}
use Rattle.cdcl_incremental.specs.Standing.{KeepsAll}
use Rattle.cdcl_incremental.proofs.incremental.Incremental.find.Given as goal

abbrev pub invariant-loop-conflict : goal.invariant-loop-conflict
invariant-loop-conflict l = KeepsAll l.fn.self l.self

abbrev pub decreases-loop-conflict : goal.decreases-loop-conflict
decreases-loop-conflict l = suc l.self.propagator.path.variables - length l.self.propagator.path.literals
