-- The stopped course of an abort.
use Rattle.std.specs.Prelude.{◌≡◌, ℕ, Bool as Truth, if◌then◌else◌, List, length, slice_index}
use Rattle.psl_tree.specs.Holds.{holds}
use Rattle.psl_tree.specs.Trees.{Boolean}
use Rattle.psl_tree.specs.declared.letter.Word.{Word}
use Rattle.lasso_tables.specs.Seen.{seen_at, sink_of}
use Rattle.lasso_tables.specs.Tables.{value_at, Has, Leads}
use Rattle.lasso_judge.specs.declared.abort.Stopped.{Stopped}

-- each place stops the course on which the Boolean holds, and next places that stop it give way to the sink
pub record IsStopped (word : Word) (flipped : Truth) (test : Boolean) (next : List ℕ) (stopped : Stopped) : Type 0 where
  pub stops : Has (length next) (λ place. holds (seen_at word flipped place) test) stopped.stops.items
  pub sink : stopped.sink ≡ sink_of word flipped
  pub leads : Leads (length next)
      (λ place. if value_at stopped.stops.items (slice_index next place) then stopped.sink else slice_index next place)
      stopped.next.items
