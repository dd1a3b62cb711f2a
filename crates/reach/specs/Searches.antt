-- How contracts see a search, and what it keeps.
use Rattle.std.specs.Prelude.{◌≡◌, ℕ, ◌≤◌, false}
use Rattle.reach.specs.Searched.{Searched}
use Rattle.reach.specs.Sides.{AreSides}
use Rattle.reach.specs.declared.search.Search.TheInside.{Inside}

abbrev pub searched_of : Inside → Searched
searched_of search = record {
  joined = search.aim.joint.now;
  most = search.aim.most;
  steps = search.aim.steps;
  has_ended = search.has_ended;
}

pub record IsSearch (search : Inside) : Type 0 where
  pub depth : search.aim.most ≤ 1000
  pub sides : search.has_ended ≡ false → AreSides search.aim search.first search.second search.left
