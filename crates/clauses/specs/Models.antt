-- Models of clauses: assignments under which each of them has a true literal.
use Rattle.std.specs.Prelude.{ℕ, suc, ℤ, pos, negsuc, Bool, not, List, IsTrue}
use Rattle.std.specs.List.{list_any, list_all}

-- a value for each variable
abbrev pub Assignment : Type 0
Assignment = ℕ → Bool

-- a literal is true
abbrev pub is_true : Assignment → ℤ → Bool
is_true values (pos n) = values n
is_true values (negsuc n) = not (values (suc n))

-- a clause has a true literal
abbrev pub meets : Assignment → List ℤ → Bool
meets values clause = list_any (is_true values) clause

-- an assignment is a model: each clause has a true literal
abbrev pub IsModel : Assignment → List (List ℤ) → Type 0
IsModel values clauses = IsTrue (list_all (meets values) clauses)
