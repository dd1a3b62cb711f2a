-- Where on a trail a literal is not false.
use Rattle.std.specs.Prelude.{◌≢◌, ℕ, ◌<◌, List, take}
use Rattle.std.specs.List.{Contains}
use Rattle.cdcl_trail.specs.Literals.{opposite}
use Rattle.cdcl_trail.specs.Path.{Path}
use Rattle.cdcl_incremental.specs.declared.watches.Watches.{Watches}
use Rattle.cdcl.specs.Turns.{begin_of}

-- the literals that are true at a level: those of it and of the levels below
abbrev pub true_at : Path → ℕ → List ℕ
true_at path level = take (begin_of path level) path.literals

-- a literal is false at a level
abbrev pub IsFalseAtLevel : Path → ℕ → ℕ → Type 0
IsFalseAtLevel path literal level = Contains (true_at path level) (opposite literal)

-- at none of so many levels, from the lowest on, a literal is false
abbrev pub IsOpenBelow : Path → ℕ → ℕ → Type 0
IsOpenBelow path literal levels = (level : ℕ) → level < levels → IsFalseAtLevel path literal level → ⊥

-- a literal of a clause that is not false at so many levels
pub record IsOpenIn (path : Path) (clause : List ℕ) (literal levels : ℕ) : Type 0 where
  pub has : Contains clause literal
  pub opens : IsOpenBelow path literal levels

-- two literals of a clause that are not false at so many levels
pub record AreWatches (path : Path) (clause : List ℕ) (watches : Watches) : Type 0 where
  pub first : IsOpenIn path clause watches.first watches.levels
  pub second : IsOpenIn path clause watches.second watches.levels
  pub differ : watches.first ≢ watches.second
