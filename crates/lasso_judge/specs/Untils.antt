-- Which places lead over places of one table to one of another, and tables that grow to these.
use Rattle.std.specs.Prelude.{◌≡◌, Bool as Truth, true, false, ℕ, suc, ◌+◌, ◌<◌, ◌≤◌, if◌then◌else◌, List, [], ◌∷◌, length, slice_index, IsTrue}
use Rattle.psl_tree.specs.Classical.{Exists}
use Rattle.alternating_theory.specs.Courses.{walk}
use Rattle.lasso_tables.specs.Tables.{value_at}

-- some walk from the place leads over places of the left table to one of the right
abbrev pub WalksTo : List Truth → List Truth → List ℕ → ℕ → Type 0
WalksTo left right next place = Exists (λ k. IsTrue (value_at right (walk (λ q. slice_index next q) k place))
    × ((j : ℕ) → j < k → IsTrue (value_at left (walk (λ q. slice_index next q) j place))))

-- the table has those places from which such a walk leads, and no others
pub record IsReached (left right : List Truth) (next : List ℕ) (reached : List Truth) : Type 0 where
  pub same_length : length reached ≡ length next
  pub sound : (place : ℕ) → place < length next → IsTrue (value_at reached place) → WalksTo left right next place
  pub whole : (place : ℕ) → place < length next → WalksTo left right next place → IsTrue (value_at reached place)

-- the table has no place without such a walk
abbrev pub IsSound : List Truth → List Truth → List ℕ → List Truth → Type 0
IsSound left right next reached =
    (place : ℕ) → place < length next → IsTrue (value_at reached place) → WalksTo left right next place

-- how many places the table does not have
abbrev pub unset : List Truth → ℕ
unset [] = 0
unset (true ∷ values) = unset values
unset (false ∷ values) = suc (unset values)

-- the table grew by places with such walks; where it says that it did not, a place of the left table
-- before one that it has is one that it has, from a place on
pub record Grown (from : ℕ) (left : List Truth) (next : List ℕ) (old new : List Truth) (more : Truth) : Type 0 where
  pub same_length : length new ≡ length old
  pub stay : (place : ℕ) → IsTrue (value_at old place) → IsTrue (value_at new place)
  pub sound : (right : List Truth) → IsSound left right next old → IsSound left right next new
  pub closed : more ≡ false → (place : ℕ) → from ≤ place → place < length next → IsTrue (value_at left place)
      → IsTrue (value_at new (slice_index next place)) → IsTrue (value_at new place)

-- and where it grew, fewer places are left out
pub record GrowsTo (from : ℕ) (left : List Truth) (next : List ℕ) (old new : List Truth) (more : Truth) : Type 0 where
  pub grown : Grown from left next old new more
  pub fewer : unset new + (if more then 1 else 0) ≤ unset old
