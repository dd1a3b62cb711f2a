-- Relations from state to state, as circuits: terms that are true of a state, the next one, and some choices.
use Rattle.std.specs.Prelude.{◌≡◌, ℕ, suc, ◌+◌, ◌<◌, Bool, List, replicate, IsTrue}
use Rattle.std.specs.List.{list_all}
use Rattle.clauses.specs.Models.{Assignment}
use Rattle.gates_theory.specs.declared.circuit.Circuit.{Circuit}
use Rattle.gates_theory.specs.declared.circuit.Gate.TheVariants.{Free}
use Rattle.gates_theory.specs.Circuits.{literal_values}
use Rattle.gates_theory.specs.Distinct.{following}
use Rattle.gates_theory.specs.Terms.{Term, value, term_within, built_all}

-- A relation: the variables 1 to the width are the bits of a state, as many behind them those of the next one, and then
-- come the choices; the terms say what holds.
pub record Relation : Type 0 where
  pub width : ℕ
  pub choices : ℕ
  pub holds : List Term

-- how many variables it has
abbrev pub variables_of : Relation → ℕ
variables_of relation = relation.width + relation.width + relation.choices

-- the terms have literals of the relation's variables alone
abbrev pub IsClosed : Relation → Type 0
IsClosed relation = IsTrue (list_all (term_within (variables_of relation)) relation.holds)

-- the terms are true
abbrev pub is_related : Relation → Assignment → Bool
is_related relation values = list_all (value values) relation.holds

-- the circuit of a relation: a free gate for each variable, and then the gates of the terms, which are held
abbrev pub circuit_of : Relation → Circuit
circuit_of relation = record {
  gates = (built_all (replicate (variables_of relation) Free) relation.holds).gates;
  now = following 0 relation.width;
  next = following relation.width relation.width;
  hold = (built_all (replicate (variables_of relation) Free) relation.holds).outputs;
}

-- Values of the variables over so many positions: at every position but the last the terms are true, and the state at
-- the next position is the next one of this.
pub record IsChain (relation : Relation) (positions : ℕ) (values : ℕ → Assignment) : Type 0 where
  pub related : (position : ℕ) → suc position < positions → IsTrue (is_related relation (values position))
  pub moves : (position : ℕ) → suc position < positions
      → literal_values (values (suc position)) (following 0 relation.width)
      ≡ literal_values (values position) (following relation.width relation.width)
