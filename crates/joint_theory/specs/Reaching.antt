-- The formulas that look for a joint state, or for a pair of neighbours, by clauses over the state bits. They have one
-- position: the first variables are the bits of the state, and where there is a pair, as many behind them are those of
-- its neighbour.
use Rattle.std.specs.Prelude.{◌≡◌, ℕ, suc, ◌+◌, ◌↔◌, ℤ, neg_ℤ, Bool as Truth, false, if◌then◌else◌, List, [], ◌∷◌, ◌++◌, map, length, IsTrue}
use Rattle.alternating_theory.specs.Obligations.{Automaton}
use Rattle.gates_theory.specs.Circuits.{AreSame}
use Rattle.gates_theory.specs.Relations.{Relation, circuit_of}
use Rattle.gates_theory.specs.Unrolled.{units}
use Rattle.clauses.specs.Literals.{clauses_within}
use Rattle.clauses.specs.Models.{Assignment, IsModel}
use Rattle.joint_selectors.specs.Missed.{some_missed, values_from}
use Rattle.netlist.specs.Design.{Design}
use Rattle.run_terms.specs.Formulas.{whole, HasModel}
use Rattle.joint_theory.specs.Bits.{bad_bit, joint_width, state_in}
use Rattle.joint_theory.specs.Queries.{start_literals}
use Rattle.joint_theory.specs.Relation.{state_terms, step_terms}
use Rattle.joint_theory.specs.Sets.{bits_of, is_in_cube, is_met}
use Rattle.joint_theory.specs.States.{IsState, IsBad, IsInitial, AreNeighbours}
use Rattle.joint_theory.specs.declared.path.JointState.{JointState}

-- what holds of a state, without a next one
abbrev pub one_state : Design → Automaton → ℕ → Relation
one_state design automaton visits = record {
  width = 0;
  choices = joint_width design automaton visits;
  holds = state_terms design automaton visits 0;
}

-- what holds of a state and one that follows it, whether the first is bad or not; behind both comes whether nothing is
-- pending
abbrev pub two_states : Design → Automaton → ℕ → Relation
two_states design automaton visits = record {
  width = 0;
  choices = suc (joint_width design automaton visits + joint_width design automaton visits);
  holds = state_terms design automaton visits 0
      ++ state_terms design automaton visits (joint_width design automaton visits)
      ++ step_terms design automaton visits (joint_width design automaton visits);
}

-- how many gates these have
abbrev pub one_size : Design → Automaton → ℕ → ℕ
one_size design automaton visits = length (circuit_of (one_state design automaton visits)).gates

abbrev pub two_size : Design → Automaton → ℕ → ℕ
two_size design automaton visits = length (circuit_of (two_states design automaton visits)).gates

-- an initial state that misses a clause
abbrev pub query_initial : Design → Automaton → ℕ → List (List ℤ) → List (List ℤ)
query_initial design automaton visits clauses =
    whole (one_state design automaton visits) 0
    ++ units 0 (start_literals design automaton visits)
    ++ some_missed 0 (one_size design automaton visits) clauses

abbrev pub initial_variables : Design → Automaton → ℕ → List (List ℤ) → ℕ
initial_variables design automaton visits clauses = one_size design automaton visits + length clauses

-- a state that meets all clauses, and a neighbour that misses one
abbrev pub query_step : Design → Automaton → ℕ → List (List ℤ) → List (List ℤ)
query_step design automaton visits clauses =
    whole (two_states design automaton visits) 0
    ++ clauses
    ++ some_missed (joint_width design automaton visits) (two_size design automaton visits) clauses

abbrev pub step_variables : Design → Automaton → ℕ → List (List ℤ) → ℕ
step_variables design automaton visits clauses = two_size design automaton visits + length clauses

-- a bad state that meets all clauses
abbrev pub query_bad : Design → Automaton → ℕ → List (List ℤ) → List (List ℤ)
query_bad design automaton visits clauses =
    whole (one_state design automaton visits) 0 ++ clauses ++ ((bad_bit design automaton visits ∷ []) ∷ [])

abbrev pub bad_variables : Design → Automaton → ℕ → ℕ
bad_variables design automaton visits = one_size design automaton visits

-- the state is initial, where that is asked
abbrev pub start_units : Design → Automaton → ℕ → Truth → List (List ℤ)
start_units design automaton visits initial = if initial then units 0 (start_literals design automaton visits) else []

-- a state that meets a frame and does not meet all of a cube, and is initial where that is asked, and a neighbour that
-- meets all of the cube
abbrev pub query_relative : Design → Automaton → ℕ → List (List ℤ) → Truth → List ℤ → List (List ℤ)
query_relative design automaton visits frame initial cube =
    whole (two_states design automaton visits) 0
    ++ frame
    ++ (map neg_ℤ cube ∷ [])
    ++ units (joint_width design automaton visits) cube
    ++ start_units design automaton visits initial

abbrev pub relative_variables : Design → Automaton → ℕ → ℕ
relative_variables design automaton visits = two_size design automaton visits

-- The states and pairs that these name: an initial state that misses a clause;
pub record MissesInitially (design : Design) (automaton : Automaton) (visits : ℕ) (clauses : List (List ℤ)) (state : JointState) : Type 0 where
  pub is : IsState design automaton visits state
  pub initial : IsInitial design automaton state
  pub misses : is_met design automaton visits clauses state ≡ false

-- a bad state that meets all clauses;
pub record MeetsBadly (design : Design) (automaton : Automaton) (visits : ℕ) (clauses : List (List ℤ)) (state : JointState) : Type 0 where
  pub is : IsState design automaton visits state
  pub bad : IsBad visits state
  pub meets : IsTrue (is_met design automaton visits clauses state)

-- a state that meets all clauses, and a neighbour of it that misses one;
pub record LeavesBy (design : Design) (automaton : Automaton) (visits : ℕ) (clauses : List (List ℤ)) (state next : JointState) : Type 0 where
  pub is : IsState design automaton visits state
  pub is_next : IsState design automaton visits next
  pub neighbours : AreNeighbours design automaton visits state next
  pub meets : IsTrue (is_met design automaton visits clauses state)
  pub misses : is_met design automaton visits clauses next ≡ false

-- and a state that meets a frame, is outside a cube, and is initial where that is asked, and a neighbour of it in the
-- cube.
pub record EntersBy (design : Design) (automaton : Automaton) (visits : ℕ) (frame : List (List ℤ)) (initial : Truth) (cube : List ℤ) (state next : JointState) : Type 0 where
  pub is : IsState design automaton visits state
  pub is_next : IsState design automaton visits next
  pub neighbours : AreNeighbours design automaton visits state next
  pub meets : IsTrue (is_met design automaton visits frame state)
  pub outside : is_in_cube design automaton visits cube state ≡ false
  pub inside : IsTrue (is_in_cube design automaton visits cube next)
  pub begins : IsTrue initial → IsInitial design automaton state

-- the queries for an initial state, a step and a bad state have no model
pub record AreRefuted (design : Design) (automaton : Automaton) (visits : ℕ) (clauses : List (List ℤ)) : Type 0 where
  pub initial : HasModel (initial_variables design automaton visits clauses) (query_initial design automaton visits clauses) → ⊥
  pub step : HasModel (step_variables design automaton visits clauses) (query_step design automaton visits clauses) → ⊥
  pub bad : HasModel (bad_variables design automaton visits) (query_bad design automaton visits clauses) → ⊥

-- there is a state, or a pair of states, of a kind
abbrev pub SomeState : (JointState → Type 0) → Type 0
SomeState named = ((state : JointState) → named state → ⊥) → ⊥

abbrev pub SomePair : (JointState → JointState → Type 0) → Type 0
SomePair named = ((state next : JointState) → named state next → ⊥) → ⊥

-- A formula over so many variables stands for the states of a kind: it names no further variables; it has a model exactly
-- where there is such a state; each model has the bits of one, which is the state that they are read as; and each such
-- state has a model with its bits.
pub record StandsForOne (design : Design) (automaton : Automaton) (visits variables : ℕ) (formula : List (List ℤ)) (named : JointState → Type 0) : Type 0 where
  pub within : IsTrue (clauses_within variables formula)
  pub models : HasModel variables formula ↔ SomeState named
  pub reads : (values : Assignment) → IsModel values formula
      → named (state_in design automaton visits 0 values)
      × AreSame (joint_width design automaton visits) values
      (bits_of design automaton visits (state_in design automaton visits 0 values))
  pub writes : (state : JointState) → named state
      → (values : Assignment) × IsModel values formula
      × AreSame (joint_width design automaton visits) values (bits_of design automaton visits state)

-- so it stands for pairs of states, where the bits of the second are behind those of the first
pub record StandsForTwo (design : Design) (automaton : Automaton) (visits variables : ℕ) (formula : List (List ℤ)) (named : JointState → JointState → Type 0) : Type 0 where
  pub within : IsTrue (clauses_within variables formula)
  pub models : HasModel variables formula ↔ SomePair named
  pub reads : (values : Assignment) → IsModel values formula
      → named (state_in design automaton visits 0 values)
      (state_in design automaton visits (joint_width design automaton visits) values)
      × AreSame (joint_width design automaton visits) values
      (bits_of design automaton visits (state_in design automaton visits 0 values))
      × AreSame (joint_width design automaton visits) (values_from (joint_width design automaton visits) values)
      (bits_of design automaton visits (state_in design automaton visits (joint_width design automaton visits) values))
  pub writes : (state next : JointState) → named state next
      → (values : Assignment) × IsModel values formula
      × AreSame (joint_width design automaton visits) values (bits_of design automaton visits state)
      × AreSame (joint_width design automaton visits) (values_from (joint_width design automaton visits) values)
      (bits_of design automaton visits next)
