-- What contracts see of a search that can be gone on with.
use Rattle.std.specs.Prelude.{ℕ, Bool as Truth}
use Rattle.joint.specs.Joined.{Joined}

-- the joint states that are searched, how many frames there are to be at most, how many steps the solver has for each
-- query, and whether the search has ended
pub record Searched : Type 0 where
  pub joined : Joined
  pub most : ℕ
  pub steps : ℕ
  pub has_ended : Truth
