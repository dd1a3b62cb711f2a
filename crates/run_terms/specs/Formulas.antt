-- Formulas of a relation at so many positions, and what it is for a formula to have a model.
use Rattle.std.specs.Prelude.{◌≡◌, ℕ, suc, ◌-◌, ◌*◌, ℤ, Bool as Truth, false, List, ◌++◌, length, slice_index_or}
use Rattle.clauses.specs.Models.{Assignment, IsModel}
use Rattle.gates_theory.specs.Relations.{Relation, circuit_of}
use Rattle.gates_theory.specs.Unrolled.{units, unrolled}

-- the terms of a relation are true at the positions up to the last one, and each state is the one that the position
-- before it gives
abbrev pub whole : Relation → ℕ → List (List ℤ)
whole relation last =
    unrolled (circuit_of relation) (suc last)
    ++ units (last * length (circuit_of relation).gates) (circuit_of relation).hold

-- the values of variables, which are numbered from 1
abbrev pub values_of : List Truth → Assignment
values_of values variable = slice_index_or values (variable - 1) false

-- some values of so many variables are a model
abbrev pub HasModel : ℕ → List (List ℤ) → Type 0
HasModel variables clauses =
    ((values : List Truth) → length values ≡ variables → IsModel (values_of values) clauses → ⊥) → ⊥
