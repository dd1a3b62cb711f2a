use Rattle.std.specs.Prelude.{not}
use Rattle.lasso_tables.specs.Tables.{value_at, Has}
use Rattle.lasso_tables.proofs.tables.opposites.Given as goal

abbrev pub invariant-loop-place : goal.invariant-loop-place
invariant-loop-place l = Has l.place (λ place. not (value_at l.part place)) l.values.items
