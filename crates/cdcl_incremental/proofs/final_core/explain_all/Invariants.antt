use Rattle.cdcl_incremental.specs.Cores.{Implies}
use Rattle.cdcl_incremental.proofs.final_core.explain_all.Given as goal

abbrev pub invariant-loop-place : goal.invariant-loop-place
invariant-loop-place l = Implies l.propagator l.initial.flags l.flags
