use Rattle.cdcl_incremental.specs.Cores.{IsTaken}
use Rattle.cdcl_incremental.proofs.final_core.take_assumed.Given as goal

abbrev pub invariant-loop-literal : goal.invariant-loop-literal
invariant-loop-literal l = IsTaken l.trail l.assumed l.initial.flags l.initial.core.items l.flags l.core.items
