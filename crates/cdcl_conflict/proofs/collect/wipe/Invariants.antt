use Rattle.std.proofs.Common.{◌≡◌, ◌≢◌, ℕ, ◌<◌, ◌≤◌, length, get_or}
use Rattle.cdcl_conflict.specs.declared.standing.Standing.TheVariants.{Untouched}
use Rattle.cdcl_conflict.specs.Standings.{standing_at}
use Rattle.cdcl_conflict.proofs.collect.wipe.Given as goal

abbrev pub invariant-loop-place : goal.invariant-loop-place
invariant-loop-place l =
    (place : ℕ) → standing_at l.standings place ≢ Untouched → (index : ℕ) × (l.place-index ≤ index) × (index < length l.places) × (get_or l.places index 0 ≡ place)
