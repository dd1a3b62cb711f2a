-- Clauses that no two states of a path are equal.
use Rattle.std.specs.Prelude.{ℕ, zero, suc, ◌+◌, ◌*◌, ℤ, pos, negsuc, neg_ℤ, List, [], ◌∷◌, ◌++◌, length}
use Rattle.gates_theory.specs.declared.circuit.Circuit.{Circuit}
use Rattle.gates_theory.specs.Unrolled.{up_to, moved}

-- how many pairs there are of numbers below a bound
abbrev pub pairs : ℕ → ℕ
pairs zero = 0
pairs (suc count) = pairs count + count

-- the literals of so many variables that follow so many others
abbrev pub following : ℕ → ℕ → List ℤ
following variables zero = []
following variables (suc count) = pos (suc variables) ∷ following (suc variables) count

-- the variable behind so many is true only where two literals have different values
abbrev pub difference : ℕ → ℤ → ℤ → List (List ℤ)
difference variables first second =
    (negsuc variables ∷ first ∷ second ∷ []) ∷ (negsuc variables ∷ neg_ℤ first ∷ neg_ℤ second ∷ []) ∷ []

-- for each of some literals a variable that is true only where the literal has different values at two positions
abbrev pub differences : ℕ → ℕ → ℕ → List ℤ → List (List ℤ)
differences variables low high [] = []
differences variables low high (literal ∷ literals) =
    difference variables (moved low literal) (moved high literal) ++ differences (suc variables) low high literals

-- the states at two positions are different: one of these variables is true
abbrev pub pair_clauses : Circuit → ℕ → ℕ → ℕ → List (List ℤ)
pair_clauses circuit variables earlier later =
    differences variables (earlier * length circuit.gates) (later * length circuit.gates) circuit.now
    ++ following variables (length circuit.now) ∷ []

-- how many variables are in use before the pair of two positions
abbrev pub variables_before : Circuit → ℕ → ℕ → ℕ → ℕ
variables_before circuit variables earlier later = variables + (pairs later + earlier) * length circuit.now

-- the states at the first so many positions are different from that at a later one
abbrev pub row_clauses : Circuit → ℕ → ℕ → ℕ → List (List ℤ)
row_clauses circuit variables later count =
    up_to count (λ earlier. pair_clauses circuit (variables_before circuit variables earlier later) earlier later)

-- the states at the first so many positions are different, where so many variables are in use
abbrev pub distinct : Circuit → ℕ → ℕ → List (List ℤ)
distinct circuit variables positions = up_to positions (λ later. row_clauses circuit variables later later)
