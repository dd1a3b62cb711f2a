use Rattle.std.proofs.Common.{◌≡◌, ℕ, ◌<◌, length, get_or}
use Rattle.cdcl_incremental.specs.Cores.{IsFlag}
use Rattle.cdcl_incremental.proofs.final_core.flag.Given as goal

abbrev pub invariant-loop-other : goal.invariant-loop-other
invariant-loop-other l = record {
  size : length l.flags.items ≡ l.other-index;
  flag : (at : ℕ) → at < l.other-index → get_or l.trail.literals at 0 ≡ l.literal → IsFlag l.flags.items at;
}
