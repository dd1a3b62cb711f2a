-- What the search for the words of a block goes by.
use Rattle.std.specs.Prelude.{length}
use Rattle.alternating_blocks.specs.Equations.{IsReady}
use Rattle.alternating_blocks.specs.Order.{IsOrder}
use Rattle.alternating_blocks.specs.declared.find.Search.{Search}

-- there is an equation and a turn for each obligation
pub record CanSearch (search : Search) : Type 0 where
  pub equations : IsReady search.equations
  pub order : IsOrder (length search.equations.after.now) search.order.now
