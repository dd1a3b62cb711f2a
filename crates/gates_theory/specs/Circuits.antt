-- Circuits of gates with state bits, and their paths.
use Rattle.std.specs.Prelude.{◌≡◌, ℕ, suc, ◌<◌, ◌≤◌, ℤ, pos, Bool, true, false, not, ◌&&◌, List, [], ◌∷◌, map, length, slice_get, Some, IsTrue}
use Rattle.std.specs.List.{list_all, All}
use Rattle.clauses.specs.Literals.{is_within, clause_within}
use Rattle.clauses.specs.Models.{Assignment, is_true}
use Rattle.gates_theory.specs.declared.circuit.Circuit.{Circuit}
use Rattle.gates_theory.specs.declared.circuit.Gate.{Gate}
use Rattle.gates_theory.specs.declared.circuit.Gate.TheVariants.{Free, And}

-- a gate names only gates among the first so many, and gates that follow so many others name earlier ones
abbrev pub gate_within : ℕ → Gate → Bool
gate_within before Free = true
gate_within before (And first second) = is_within before first && is_within before second

abbrev pub gates_within : ℕ → List Gate → Bool
gates_within before [] = true
gates_within before (gate ∷ gates) = gate_within before gate && gates_within (suc before) gates

-- a literal of a free gate, not negated
abbrev pub IsStateBit : List Gate → ℤ → Type 0
IsStateBit gates literal = (before : ℕ) × (literal ≡ pos (suc before)) × (slice_get gates before ≡ Some Free)

-- What holds of each circuit: conjunctions name earlier gates, the state bits are free gates, each has a next value,
-- and every literal is that of a gate.
pub record IsSound (circuit : Circuit) : Type 0 where
  pub gates : IsTrue (gates_within 0 circuit.gates)
  pub now : All (IsStateBit circuit.gates) circuit.now
  pub next : IsTrue (clause_within (length circuit.gates) circuit.next)
  pub each : length circuit.next ≡ length circuit.now
  pub hold : IsTrue (clause_within (length circuit.gates) circuit.hold)

-- whether two truth values are the same
abbrev pub same : Bool → Bool → Bool
same true other = other
same false other = not other

-- A gate that follows so many others has the value that it should: a conjunction that of its literals. The gates are
-- numbered from 1.
abbrev pub gate_holds : Assignment → ℕ → Gate → Bool
gate_holds values before Free = true
gate_holds values before (And first second) = same (values (suc before)) (is_true values first && is_true values second)

abbrev pub gates_hold : Assignment → ℕ → List Gate → Bool
gates_hold values before [] = true
gates_hold values before (gate ∷ gates) = gate_holds values before gate && gates_hold values (suc before) gates

-- the values of some literals
abbrev pub literal_values : Assignment → List ℤ → List Bool
literal_values values literals = map (is_true values) literals

-- the state that gates with these values are in
abbrev pub state_of : Circuit → Assignment → List Bool
state_of circuit values = literal_values values circuit.now

-- A path over so many positions: values of the gates at each of them, with which each gate is as it should be, the held
-- literals are true at every position but the last, and each state is the one that the position before it gives.
pub record IsPath (circuit : Circuit) (positions : ℕ) (values : ℕ → Assignment) : Type 0 where
  pub gates : (position : ℕ) → position < positions → IsTrue (gates_hold (values position) 0 circuit.gates)
  pub hold : (position : ℕ) → suc position < positions → IsTrue (list_all (is_true (values position)) circuit.hold)
  pub moves : (position : ℕ) → suc position < positions
      → state_of circuit (values (suc position)) ≡ literal_values (values position) circuit.next

-- no two of the states at the first so many positions are equal
abbrev pub AreDistinct : Circuit → ℕ → (ℕ → Assignment) → Type 0
AreDistinct circuit positions values = (earlier later : ℕ) → earlier < later → later < positions
    → state_of circuit (values earlier) ≡ state_of circuit (values later) → ⊥

-- two assignments give the first so many variables the same values
abbrev pub AreSame : ℕ → Assignment → Assignment → Type 0
AreSame variables values others = (variable : ℕ) → 0 < variable → variable ≤ variables
    → values variable ≡ others variable
