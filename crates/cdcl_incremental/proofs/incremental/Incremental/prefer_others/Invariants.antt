use Rattle.cdcl_incremental.specs.Standing.{KeepsAll}
use Rattle.cdcl_incremental.proofs.incremental.Incremental.prefer_others.Given as goal

abbrev pub invariant-loop-literal : goal.invariant-loop-literal
invariant-loop-literal l = KeepsAll l.fn.self l.self
