use Rattle.std.proofs.Common.{ℕ, ◌<◌, ◌≤◌, get_or}
use Rattle.std.specs.List.{Contains}
use Rattle.cdcl_incremental.proofs.assuming.first_open.Given as goal

abbrev pub invariant-loop-place : goal.invariant-loop-place
invariant-loop-place l = (k : ℕ) → k < l.place → l.from ≤ k → Contains l.trail.literals (get_or l.literals k 0)
