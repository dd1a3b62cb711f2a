-- Literals within so many variables.
use Rattle.std.proofs.Common.{◌≡◌, ℕ, zero, suc, ◌≤◌, ℤ, List, [], ◌∷◌, ◌++◌, take, drop, refl, ◌∙◌, ltb, leb, true, arith}
use Rattle.std.proofs.lemmas.Bool.{and_parts, and_from, leb-true, le-leb}
use Rattle.std.proofs.lemmas.List.Folds.{list_all-append}
use Rattle.std.specs.Bool.{IsTrue}
use Rattle.clauses.specs.Literals.{variable_of, is_within, clause_within}

-- a part of literals is within the variables where all are, and both of two parts are where each is
pub within-take : (variables : ℕ) (literals : List ℤ) (count : ℕ) → IsTrue (clause_within variables literals) → IsTrue (clause_within variables (take count literals))
within-take variables literals zero all = refl
within-take variables [] (suc count) all = refl
within-take variables (literal ∷ literals) (suc count) all =
    let parts = and_parts (is_within variables literal) (clause_within variables literals) all in
    and_from (is_within variables literal) (clause_within variables (take count literals)) parts.0 (within-take variables literals count parts.1)

pub within-drop : (variables : ℕ) (literals : List ℤ) (count : ℕ) → IsTrue (clause_within variables literals) → IsTrue (clause_within variables (drop count literals))
within-drop variables literals zero all = all
within-drop variables [] (suc count) all = refl
within-drop variables (literal ∷ literals) (suc count) all =
    within-drop variables literals count (and_parts (is_within variables literal) (clause_within variables literals) all).1

pub within-piece : (variables : ℕ) (literals : List ℤ) (start count : ℕ) → IsTrue (clause_within variables literals) → IsTrue (clause_within variables (take count (drop start literals)))
within-piece variables literals start count all = within-take variables (drop start literals) count (within-drop variables literals start all)

pub within-append : (variables : ℕ) (first second : List ℤ) → IsTrue (clause_within variables first) → IsTrue (clause_within variables second) → IsTrue (clause_within variables (first ++ second))
within-append variables first second front back =
    list_all-append (is_within variables) first second ∙ and_from (clause_within variables first) (clause_within variables second) front back

-- what is within fewer variables is within more
within-wider_one : (few more : ℕ) → few ≤ more → (literal : ℤ) → is_within few literal ≡ true → is_within more literal ≡ true
within-wider_one few more order literal within =
    let parts = and_parts (ltb 0 (variable_of literal)) (leb (variable_of literal) few) within in
    and_from (ltb 0 (variable_of literal)) (leb (variable_of literal) more) parts.0
    (le-leb (variable_of literal) more (omega (arith, leb-true (variable_of literal) few parts.1)))

pub within-wider : (few more : ℕ) → few ≤ more → (clause : List ℤ) → IsTrue (clause_within few clause) → IsTrue (clause_within more clause)
within-wider few more order [] all = refl
within-wider few more order (literal ∷ literals) all =
    let parts = and_parts (is_within few literal) (clause_within few literals) all in
    and_from (is_within more literal) (clause_within more literals) (within-wider_one few more order literal parts.0) (within-wider few more order literals parts.1)
