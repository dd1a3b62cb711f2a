use Rattle.std.proofs.Common.{◌-◌}
use Rattle.lasso_judge.specs.Cells.{cell_of}
use Rattle.lasso_tables.specs.Tables.{value_at, Has}
use Rattle.lasso_judge.proofs.sequences.at_starts.Given as goal

abbrev pub invariant-loop-place : goal.invariant-loop-place
invariant-loop-place l = Has l.place (λ place. value_at l.cells (cell_of l.states place (l.states - 1))) l.values.items
