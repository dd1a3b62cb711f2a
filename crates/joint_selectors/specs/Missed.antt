-- Some clause of a list is missed: none of its literals is true. A variable for each clause of the list, a selector, is
-- true only where that clause is missed, and some selector is true. The selectors follow one another behind so many
-- other variables, and the clauses may be about variables that are so much higher than those that they name.
use Rattle.std.specs.Prelude.{◌≡◌, ℕ, suc, ◌+◌, ◌*◌, ℤ, negsuc, neg_ℤ, Bool, false, List, [], ◌∷◌, ◌++◌, map, length, sum_by}
use Rattle.std.specs.List.{list_all}
use Rattle.clauses.specs.Models.{Assignment, meets}
use Rattle.gates_theory.specs.Distinct.{following}
use Rattle.gates_theory.specs.Unrolled.{moved}

-- the selector behind so many variables is true only where each literal of a clause is false
abbrev pub missed : ℕ → ℕ → List ℤ → List (List ℤ)
missed base before clause = map (λ literal. negsuc before ∷ neg_ℤ (moved base literal) ∷ []) clause

-- so it is of each clause and its selector
abbrev pub each_missed : ℕ → ℕ → List (List ℤ) → List (List ℤ)
each_missed base before [] = []
each_missed base before (clause ∷ clauses) = missed base before clause ++ each_missed base (suc before) clauses

-- some clause is missed
abbrev pub some_missed : ℕ → ℕ → List (List ℤ) → List (List ℤ)
some_missed base before clauses = each_missed base before clauses ++ (following before (length clauses) ∷ [])

-- what it is for values to miss some clause: not each of them has a true literal
abbrev pub values_from : ℕ → Assignment → Assignment
values_from base values variable = values (base + variable)

abbrev pub meets_each : ℕ → Assignment → List (List ℤ) → Bool
meets_each base values clauses = list_all (meets (values_from base values)) clauses

abbrev pub MissesSome : ℕ → Assignment → List (List ℤ) → Type 0
MissesSome base values clauses = meets_each base values clauses ≡ false

-- the words: three for each literal, one for each selector, and one
abbrev pub missed_words : List (List ℤ) → ℕ
missed_words clauses = 3 * sum_by length clauses + length clauses + 1
