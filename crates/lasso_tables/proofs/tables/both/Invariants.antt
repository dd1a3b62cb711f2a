use Rattle.std.specs.Prelude.{◌&&◌}
use Rattle.lasso_tables.specs.Tables.{value_at, Has}
use Rattle.lasso_tables.proofs.tables.both.Given as goal

abbrev pub invariant-loop-place : goal.invariant-loop-place
invariant-loop-place l = Has l.place (λ place. value_at l.left place && value_at l.right place) l.values.items
