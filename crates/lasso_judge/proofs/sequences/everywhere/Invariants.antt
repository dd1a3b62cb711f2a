use Rattle.std.proofs.Common.{true}
use Rattle.lasso_tables.specs.Tables.{Has}
use Rattle.lasso_judge.proofs.sequences.everywhere.Given as goal

abbrev pub invariant-loop-place : goal.invariant-loop-place
invariant-loop-place l = Has l._place (λ _. true) l.values.items
