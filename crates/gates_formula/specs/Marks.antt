-- Marks of variables, each at its number.
use Rattle.std.specs.Prelude.{◌≡◌, ℕ, ◌<◌, ℤ, Bool, false, List, length, slice_index_or}
use Rattle.gates_nodes.specs.Clauses.{asks}

-- set are the marks of just the variables that are among those of literals
pub record AreMarks (marks : List Bool) (literals : List ℤ) : Type 0 where
  pub are : (variable : ℕ) → variable < length marks → slice_index_or marks variable false ≡ asks literals variable
