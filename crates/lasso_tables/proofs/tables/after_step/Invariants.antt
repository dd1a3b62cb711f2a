use Rattle.std.specs.Prelude.{slice_index}
use Rattle.lasso_tables.specs.Tables.{value_at, Has}
use Rattle.lasso_tables.proofs.tables.after_step.Given as goal

abbrev pub invariant-loop-place : goal.invariant-loop-place
invariant-loop-place l = Has l.place-index (λ place. value_at l.part (slice_index l.next place)) l.values.items
