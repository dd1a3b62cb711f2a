-- The formulas of a window, over a circuit in which a variable of a position says that the state there is bad.
use Rattle.std.specs.Prelude.{ℕ, zero, suc, ◌*◌, ℤ, pos, neg_ℤ, List, [], ◌∷◌, ◌++◌, map, length}
use Rattle.std.specs.List.{range_with_len}
use Rattle.gates_theory.specs.declared.circuit.Circuit.{Circuit}
use Rattle.gates_theory.specs.Distinct.{distinct}
use Rattle.gates_theory.specs.Sizes.{distinct_variables}
use Rattle.gates_theory.specs.Unrolled.{moved, units}
use Rattle.run_formulas.specs.Adding.{held_to}

-- the state is bad at a position, where each has so many variables
abbrev pub bad_at : ℕ → ℕ → ℕ → ℤ
bad_at size bad position = moved (position * size) (pos bad)

-- what is true of an initial state, and a bad one among so many positions; without a position there is none
abbrev pub base : Circuit → List ℤ → ℕ → ℕ → List (List ℤ)
base circuit start bad zero = [] ∷ []
base circuit start bad (suc last) =
    held_to circuit last ++ units 0 start ++ (map (bad_at (length circuit.gates) bad) (range_with_len 0 (suc last)) ∷ [])

abbrev pub base_variables : Circuit → ℕ → ℕ
base_variables circuit window = window * length circuit.gates

-- the states at so many positions are not bad
abbrev pub good_clauses : ℕ → ℕ → ℕ → List (List ℤ)
good_clauses size bad window = map (λ position. neg_ℤ (bad_at size bad position) ∷ []) (range_with_len 0 window)

-- so many different states that are not bad, and then a bad one
abbrev pub induction : Circuit → ℕ → ℕ → List (List ℤ)
induction circuit bad window =
    held_to circuit window
    ++ good_clauses (length circuit.gates) bad window
    ++ ((bad_at (length circuit.gates) bad window ∷ []) ∷ [])
    ++ distinct circuit (suc window * length circuit.gates) window

abbrev pub induction_variables : Circuit → ℕ → ℕ
induction_variables circuit window = distinct_variables circuit (suc window * length circuit.gates) window
