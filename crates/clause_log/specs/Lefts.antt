-- What is left of a clause without the literals of a set.
use Rattle.std.specs.Prelude.{◌≢◌, ℤ, List, [], ◌∷◌, ◌++◌, Bool, true, false, Option, Some, None}
use Rattle.std.specs.List.{All, Contains}
use Rattle.clauses.specs.Passing.{IsLeft}
use Rattle.clause_log.specs.declared.left.Left.{Left}
use Rattle.clause_log.specs.declared.left.Left.TheVariants.{Nothing, One, Several}

-- nothing, one literal, or two different ones and perhaps more
abbrev pub LeavesOf : List ℤ → List ℤ → Left → Type 0
LeavesOf set clause Nothing = All (Contains set) clause
LeavesOf set clause (One literal) = IsLeft set clause literal
LeavesOf set clause Several =
    (first : ℤ) × (second : ℤ) × Contains clause first × Contains clause second × (first ≢ second)
    × (Contains set first → ⊥) × (Contains set second → ⊥)

-- what is left with a literal more, whatever the clause
abbrev pub LeavesWith : List ℤ → Left → ℤ → Left → Type 0
LeavesWith set left literal new = (clause : List ℤ) → LeavesOf set clause left → LeavesOf set (clause ++ literal ∷ []) new

abbrev pub is_nothing : Left → Bool
is_nothing Nothing = true
is_nothing (One literal) = false
is_nothing Several = false

-- the literal, where it is one
abbrev pub only_of : Left → Option ℤ
only_of Nothing = None
only_of (One literal) = Some literal
only_of Several = None
