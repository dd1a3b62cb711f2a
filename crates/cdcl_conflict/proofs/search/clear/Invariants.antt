use Rattle.std.proofs.Common.{◌≡◌, ◌<◌, ℕ}
use Rattle.cdcl_conflict.specs.declared.standing.Standing.TheVariants.{Untouched}
use Rattle.cdcl_conflict.specs.Standings.{standing_at}
use Rattle.cdcl_conflict.proofs.search.clear.Given as goal

abbrev pub invariant-loop-standing : goal.invariant-loop-standing
invariant-loop-standing l = (place : ℕ) → place < l.standing-index → standing_at l.standings place ≡ Untouched
