use Rattle.std.proofs.Common.{ℕ, ◌<◌}
use Rattle.cdcl_incremental.specs.Cores.{IsFlag}
use Rattle.cdcl_incremental.proofs.final_core.is_clear.Given as goal

abbrev pub invariant-loop-flag : goal.invariant-loop-flag
invariant-loop-flag l = (at : ℕ) → at < l.flag-index → IsFlag l.flags at → ⊥
