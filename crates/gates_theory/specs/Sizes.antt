-- How large the lists of clauses are.
use Rattle.std.specs.Prelude.{ℕ, ◌+◌, ◌-◌, ◌*◌, ◌<◌, ◌⊎◌, ℤ, Bool, true, false, List, length, count_by}
use Rattle.clauses.specs.declared.flat.TheConstants.{MOST_VARIABLES, MOST_WORDS}
use Rattle.clauses.specs.Literals.{clause_words}
use Rattle.gates_theory.specs.declared.circuit.Circuit.{Circuit}
use Rattle.gates_theory.specs.declared.circuit.Gate.{Gate}
use Rattle.gates_theory.specs.declared.circuit.Gate.TheVariants.{Free, And}
use Rattle.gates_theory.specs.Distinct.{pairs}

-- a formula has more variables or words than there may be
abbrev pub IsTooLarge : ℕ → List (List ℤ) → Type 0
IsTooLarge variables clauses = (MOST_VARIABLES < variables) ⊎ (MOST_WORDS < clause_words clauses)

abbrev pub is_conjunction : Gate → Bool
is_conjunction Free = false
is_conjunction (And first second) = true

-- the variables and the words of an unrolled circuit
abbrev pub unrolled_variables : Circuit → ℕ → ℕ
unrolled_variables circuit positions = positions * length circuit.gates

abbrev pub unrolled_words : Circuit → ℕ → ℕ
unrolled_words circuit positions =
    positions * (10 * count_by is_conjunction circuit.gates)
    + (positions - 1) * (2 * length circuit.hold + 6 * length circuit.now)

-- the variables in use, and the words more, once the states at the first so many positions are different
abbrev pub distinct_variables : Circuit → ℕ → ℕ → ℕ
distinct_variables circuit variables positions = variables + pairs positions * length circuit.now

abbrev pub distinct_words : Circuit → ℕ → ℕ
distinct_words circuit positions = pairs positions * (9 * length circuit.now + 1)
