use Rattle.std.specs.Prelude.{if◌then◌else◌, slice_index}
use Rattle.lasso_tables.specs.Tables.{value_at, Leads}
use Rattle.lasso_judge.proofs.abort.halted.Given as goal

abbrev pub invariant-loop-place : goal.invariant-loop-place
invariant-loop-place l = Leads l.place-index (λ place. if value_at l.stops (slice_index l.next place) then l.sink else slice_index l.next place) l.halted.items
