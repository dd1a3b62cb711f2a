-- Cubes, and the clauses that keep them out.
use Rattle.std.specs.Prelude.{◌≢◌, ℕ, ◌+◌, ℤ, pos, negsuc, neg_ℤ, Bool as Truth, cond, List, map, length, IsTrue, slice_index_or, false}
use Rattle.std.specs.List.{All, AllPairs, Contains, range_with_len}
use Rattle.clauses.specs.Literals.{clause_within}

-- literals of the first so many variables, none of which stands twice or together with its negation
pub record IsCube (width : ℕ) (literals : List ℤ) : Type 0 where
  pub within : IsTrue (clause_within width literals)
  pub once : AllPairs (λ literal other. literal ≢ other) literals
  pub apart : (literal : ℤ) → Contains literals literal → Contains literals (neg_ℤ literal) → ⊥

-- the clause that keeps a cube out, and the cube that a clause keeps out
abbrev pub negated : List ℤ → List ℤ
negated literals = map neg_ℤ literals

-- clauses that are such lists of literals, none of which stands twice
pub record IsFrame (width : ℕ) (clauses : List (List ℤ)) : Type 0 where
  pub each : All (IsCube width) clauses
  pub once : AllPairs (λ clause other. clause ≢ other) clauses

-- the literal that says a bit of a state
abbrev pub bit_literal : List Truth → ℕ → ℤ
bit_literal state place = cond (slice_index_or state place false) (pos (place + 1)) (negsuc place)

-- all bits of a state as a cube
abbrev pub cube_of : List Truth → List ℤ
cube_of state = map (bit_literal state) (range_with_len 0 (length state))
