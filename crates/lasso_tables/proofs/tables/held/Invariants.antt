use Rattle.lasso_tables.specs.Tables.{Has}
use Rattle.psl_tree.specs.Holds.{holds}
use Rattle.psl_tree.specs.Trees.{boolean_of}
use Rattle.lasso_tables.specs.Seen.{seen_at}
use Rattle.lasso_tables.proofs.tables.held.Given as goal

abbrev pub invariant-loop-place : goal.invariant-loop-place
invariant-loop-place l = Has l.place (λ place. holds (seen_at l.word l.flipped place) (boolean_of l.test)) l.values.items
