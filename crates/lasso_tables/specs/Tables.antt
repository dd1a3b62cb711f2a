-- Tables: a truth value for each place of a course.
use Rattle.std.specs.Prelude.{◌≡◌, ◌↔◌, Bool as Truth, false, ℕ, ◌<◌, List, length, slice_index, slice_index_or, IsTrue, None}
use Rattle.psl_tree.specs.Satisfaction.{Sat}
use Rattle.psl_tree.specs.Trees.{Formula}
use Rattle.alternating_theory.specs.Courses.{Course, read_from}

-- the value at a place; false past the end
abbrev pub value_at : List Truth → ℕ → Truth
value_at values place = slice_index_or values place false

-- so many values, and which
pub record Has (count : ℕ) (value : ℕ → Truth) (values : List Truth) : Type 0 where
  pub same_length : length values ≡ count
  pub each : (place : ℕ) → place < count → value_at values place ≡ value place

-- so many next places, and which
pub record Leads (count : ℕ) (next : ℕ → ℕ) (numbers : List ℕ) : Type 0 where
  pub same_length : length numbers ≡ count
  pub each : (place : ℕ) → place < count → slice_index numbers place ≡ next place

-- the values say at which places of the course the formula is satisfied
pub record Tells (course : Course) (count : ℕ) (formula : Formula) (values : List Truth) : Type 0 where
  pub same_length : length values ≡ count
  pub exact : (place : ℕ) → place < count → IsTrue (value_at values place) ↔ Sat (read_from course place) formula None
