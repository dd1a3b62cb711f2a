use Rattle.std.specs.Prelude.{if◌then◌else◌}
use Rattle.lasso_tables.specs.Tables.{value_at, Has}
use Rattle.lasso_judge.proofs.abort.Stopped.values.Given as goal

abbrev pub invariant-loop-place : goal.invariant-loop-place
invariant-loop-place l = Has l.place (λ place. value_at l.part (if value_at l.self.stops.items place then l.self.sink else place)) l.values.items
