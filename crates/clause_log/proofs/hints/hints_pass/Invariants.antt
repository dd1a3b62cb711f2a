use Rattle.std.proofs.Common.{◌≡◌, ◌↔◌, neg_ℤ, length}
use Rattle.clauses.specs.Passing.{Passes}
use Rattle.clause_log.specs.LiveClauses.{live_clause}
use Rattle.clause_log.proofs.hints.hints_pass.Given as goal

-- what is left of the hints passes where all of them do
abbrev pub invariant-loop-hint : goal.invariant-loop-hint
invariant-loop-hint l = record {
  variables : l.set.variables ≡ l.fn.set.variables;
  passes : Passes neg_ℤ (live_clause l.live) l.fn.set.members l.fn.hints ↔ Passes neg_ℤ (live_clause l.live) l.set.members l.rest;
}

abbrev pub decreases-loop-hint : goal.decreases-loop-hint
decreases-loop-hint l = length l.rest
