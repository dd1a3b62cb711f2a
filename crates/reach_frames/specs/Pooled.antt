-- Levels of clauses whose literals lie in a pool, and the levels of clauses that they stand for.
use Rattle.std.specs.Prelude.{◌≡◌, ◌≢◌, ℕ, ◌==◌, ℤ, Bool as Truth, cond, List, map, [], count_by, slice_index_or, Option, Some, None, is_some}
use Rattle.std.specs.List.{list_any, sum_by}
use Rattle.std.specs.Int.{cast_signed, w32}
use Rattle.std.specs.Ordering.{int_eq}
use Rattle.reach_frames.specs.Levels.{clauses_of}
use Rattle.reach_frames.specs.declared.level.KeptClause.{KeptClause}
use Rattle.reach_frames.specs.declared.level.Pooled.{Pooled}

-- the literals of words: the same bits
abbrev pub literals_of : List ℕ → List ℤ
literals_of words = map (cast_signed w32) words

-- a literal is one of those of words
abbrev pub stands_in : List ℕ → ℤ → Truth
stands_in words literal = list_any (λ word. int_eq (cast_signed w32 word) literal) words

-- the literals of what a pool holds under an id. Under an id that is not live there are none
abbrev pub literals_in : Option (List ℕ) → List ℤ
literals_in None = []
literals_in (Some words) = literals_of words

-- the clause, the level and the levels that they stand for, by what a pool holds under each id
abbrev pub kept_of : (ℕ → Option (List ℕ)) → Pooled → KeptClause
kept_of held pooled = record { clause = literals_in (held pooled.id); witness = pooled.witness }

abbrev pub level_of : (ℕ → Option (List ℕ)) → List Pooled → List KeptClause
level_of held level = map (kept_of held) level

abbrev pub levels_of : (ℕ → Option (List ℕ)) → List (List Pooled) → List (List KeptClause)
levels_of held levels = map (level_of held) levels

-- the clause at a place of a level
abbrev pub clause_in : List (List KeptClause) → ℕ → ℕ → List ℤ
clause_in levels place index = slice_index_or (clauses_of (slice_index_or levels place [])) index []

-- how often an id stands in a level, and in levels
abbrev pub uses_in : ℕ → List Pooled → ℕ
uses_in id level = count_by (λ pooled. pooled.id == id) level

abbrev pub uses_of : ℕ → List (List Pooled) → ℕ
uses_of id levels = sum_by (uses_in id) levels

-- each live id of a pool stands at just one place, and no other id stands at any
abbrev pub AreHeldOnce : (ℕ → Option (List ℕ)) → List (List Pooled) → Type 0
AreHeldOnce held levels = (id : ℕ) → uses_of id levels ≡ cond (is_some (held id)) 1 0

-- under one id there is nothing any more, and under the others there is what there was
pub record TakesOut (held held' : ℕ → Option (List ℕ)) (id : ℕ) : Type 0 where
  pub gone : held' id ≡ None
  pub others : (other : ℕ) → other ≢ id → held' other ≡ held other
