use Rattle.std.proofs.Common.{◌≡◌, ◌≢◌, ℕ, ◌<◌, ◌≤◌}
use Rattle.cdcl_conflict.specs.declared.standing.Standing.TheVariants.{Waiting}
use Rattle.cdcl_conflict.specs.Standings.{standing_at, waiting_below}
use Rattle.cdcl_conflict.proofs.sweep.last_waiting.Given as goal

abbrev pub invariant-loop-place : goal.invariant-loop-place
invariant-loop-place l = record {
  order : l.place ≤ l.end;
  counted : waiting_below l.standings l.start l.place ≡ waiting_below l.standings l.start l.end;
  last : (other : ℕ) → l.place ≤ other → other < l.end → standing_at l.standings other ≢ Waiting;
}

abbrev pub decreases-loop-place : goal.decreases-loop-place
decreases-loop-place l = l.place
