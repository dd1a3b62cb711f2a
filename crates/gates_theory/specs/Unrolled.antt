-- The clauses of a circuit at so many positions. Gate k, from 1, of g gates is at the position i, from 0, the variable
-- i * g + k (Biere, Cimatti, Clarke and Zhu, Symbolic model checking without BDDs). The clauses of a gate are those of
-- Tseitin, On the complexity of derivation in propositional calculus.
use Rattle.std.specs.Prelude.{ℕ, zero, suc, ◌+◌, ◌*◌, ℤ, pos, negsuc, neg_ℤ, List, [], ◌∷◌, ◌++◌, map, length}
use Rattle.clauses.specs.Models.{Assignment}
use Rattle.gates_theory.specs.declared.circuit.Circuit.{Circuit}
use Rattle.gates_theory.specs.declared.circuit.Gate.{Gate}
use Rattle.gates_theory.specs.declared.circuit.Gate.TheVariants.{Free, And}

-- the lists of the numbers below a bound, one behind another
abbrev pub up_to : {A : Type 0} → ℕ → (ℕ → List A) → List A
up_to zero list = []
up_to (suc count) list = up_to count list ++ list count

-- a literal whose variable is so much higher
abbrev pub moved : ℕ → ℤ → ℤ
moved base (pos n) = pos (base + n)
moved base (negsuc n) = negsuc (base + n)

-- two literals have one value
abbrev pub equality : ℤ → ℤ → List (List ℤ)
equality left right = (neg_ℤ left ∷ right ∷ []) ∷ (left ∷ neg_ℤ right ∷ []) ∷ []

-- a literal is the conjunction of two others
abbrev pub conjunction : ℤ → ℤ → ℤ → List (List ℤ)
conjunction result first second =
    (neg_ℤ result ∷ first ∷ []) ∷ (neg_ℤ result ∷ second ∷ [])
    ∷ (result ∷ neg_ℤ first ∷ neg_ℤ second ∷ []) ∷ []

-- the clauses of a gate that follows so many others, where variables are so much higher than the numbers of gates
abbrev pub gate_clauses : ℕ → ℕ → Gate → List (List ℤ)
gate_clauses base before Free = []
gate_clauses base before (And first second) =
    conjunction (pos (base + suc before)) (moved base first) (moved base second)

abbrev pub gates_clauses : ℕ → ℕ → List Gate → List (List ℤ)
gates_clauses base before [] = []
gates_clauses base before (gate ∷ gates) = gate_clauses base before gate ++ gates_clauses base (suc before) gates

-- literals are true
abbrev pub units : ℕ → List ℤ → List (List ℤ)
units base literals = map (λ literal. moved base literal ∷ []) literals

-- literals at one position have the values that others have at another
abbrev pub links : ℕ → ℕ → List ℤ → List ℤ → List (List ℤ)
links base base_before (literal ∷ literals) (other ∷ others) =
    equality (moved base literal) (moved base_before other) ++ links base base_before literals others
links base base_before _ _ = []

-- what a position adds: it follows the one before it, if there is one, where the held literals are true; and its gates
abbrev pub position_clauses : Circuit → ℕ → List (List ℤ)
position_clauses circuit zero = gates_clauses 0 0 circuit.gates
position_clauses circuit (suc position) =
    units (position * length circuit.gates) circuit.hold
    ++ links (suc position * length circuit.gates) (position * length circuit.gates) circuit.now circuit.next
    ++ gates_clauses (suc position * length circuit.gates) 0 circuit.gates

-- a circuit at so many positions as clauses
abbrev pub unrolled : Circuit → ℕ → List (List ℤ)
unrolled circuit positions = up_to positions (position_clauses circuit)

-- the values of the gates at each position
abbrev pub positions_of : Circuit → Assignment → ℕ → Assignment
positions_of circuit values position gate = values (position * length circuit.gates + gate)
