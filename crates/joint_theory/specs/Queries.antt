-- The formulas that look for an open path of a window, one for each kind, and the path that a model of them stands for.
use Rattle.std.specs.Prelude.{ℕ, zero, suc, ◌*◌, ℤ, neg_ℤ, Bool as Truth, true, false, if◌then◌else◌, List, [], ◌∷◌, ◌++◌, map, length}
use Rattle.std.specs.List.{range_with_len}
use Rattle.alternating_theory.specs.Obligations.{Automaton}
use Rattle.gates_theory.specs.Distinct.{distinct}
use Rattle.gates_theory.specs.Relations.{circuit_of}
use Rattle.gates_theory.specs.Sizes.{distinct_variables}
use Rattle.gates_theory.specs.Unrolled.{moved, positions_of, units}
use Rattle.gates_theory.specs.declared.circuit.Circuit.{Circuit}
use Rattle.clauses.specs.Models.{Assignment, is_true}
use Rattle.netlist.specs.Design.{Design}
use Rattle.run_terms.specs.Formulas.{whole}
use Rattle.run_terms.specs.Moves.{first_literals}
use Rattle.joint_theory.specs.Bits.{bad_bit, count_bit, numbers_of, owed_bit, pending_bit, state_in}
use Rattle.joint_theory.specs.Relation.{joint}
use Rattle.joint_theory.specs.States.{is_listed, not_accepting}
use Rattle.joint_theory.specs.declared.path.JointPath.{JointPath}

-- the circuit of the joint states, and how many gates a position has
abbrev pub joint_circuit : Design → Automaton → ℕ → Circuit
joint_circuit design automaton visits = circuit_of (joint design automaton visits)

abbrev pub joint_size : Design → Automaton → ℕ → ℕ
joint_size design automaton visits = length (joint_circuit design automaton visits).gates

-- a literal or its negation
abbrev pub with_sign : Truth → ℤ → ℤ
with_sign sign literal = if sign then literal else neg_ℤ literal

-- the start alone is owed, and it is pending unless it is accepting, and nothing has been counted
abbrev pub start_owed : Design → Automaton → List ℤ
start_owed design automaton =
    map (λ number. with_sign (is_listed (automaton.start ∷ []) number) (owed_bit design 0 number)) (numbers_of automaton)

abbrev pub start_pending : Design → Automaton → List ℤ
start_pending design automaton =
    map (λ number. with_sign (is_listed (not_accepting automaton (automaton.start ∷ [])) number)
    (pending_bit design automaton 0 number)) (numbers_of automaton)

abbrev pub start_counts : Design → Automaton → ℕ → List ℤ
start_counts design automaton visits =
    map (λ number. neg_ℤ (count_bit design automaton 0 number)) (range_with_len 0 (suc visits))

-- the state is initial
abbrev pub start_literals : Design → Automaton → ℕ → List ℤ
start_literals design automaton visits =
    first_literals design.signals 0 design.latches
    ++ start_owed design automaton
    ++ start_pending design automaton
    ++ start_counts design automaton visits

-- the state is bad at a position
abbrev pub bad_at : Design → Automaton → ℕ → ℕ → ℤ
bad_at design automaton visits position =
    moved (position * joint_size design automaton visits) (bad_bit design automaton visits)

-- An initial state, and a bad one among so many positions as the window. Without a position there is no state: then no
-- values are a model.
abbrev pub base : Design → Automaton → ℕ → ℕ → List (List ℤ)
base design automaton visits zero = [] ∷ []
base design automaton visits (suc last) =
    whole (joint design automaton visits) last
    ++ units 0 (start_literals design automaton visits)
    ++ (map (bad_at design automaton visits) (range_with_len 0 (suc last)) ∷ [])

abbrev pub base_variables : Design → Automaton → ℕ → ℕ → ℕ
base_variables design automaton visits window = window * joint_size design automaton visits

-- so many different states as the window that are not bad, and then a bad one
abbrev pub induction : Design → Automaton → ℕ → ℕ → List (List ℤ)
induction design automaton visits window =
    whole (joint design automaton visits) window
    ++ map (λ position. neg_ℤ (bad_at design automaton visits position) ∷ []) (range_with_len 0 window)
    ++ ((bad_at design automaton visits window ∷ []) ∷ [])
    ++ distinct (joint_circuit design automaton visits) (suc window * joint_size design automaton visits) window

abbrev pub induction_variables : Design → Automaton → ℕ → ℕ → ℕ
induction_variables design automaton visits window =
    distinct_variables (joint_circuit design automaton visits) (suc window * joint_size design automaton visits) window

-- the query for open paths of a kind, the initial one or the other, and how many variables it has
abbrev pub query : Design → Automaton → ℕ → ℕ → Truth → List (List ℤ)
query design automaton visits window true = base design automaton visits window
query design automaton visits window false = induction design automaton visits window

abbrev pub query_variables : Design → Automaton → ℕ → ℕ → Truth → ℕ
query_variables design automaton visits window true = base_variables design automaton visits window
query_variables design automaton visits window false = induction_variables design automaton visits window

-- the first of so many positions at which the state is bad, or their number if there is none
abbrev pub first_bad : Design → Automaton → ℕ → ℕ → Assignment → ℕ → ℕ
first_bad design automaton visits zero values position = position
first_bad design automaton visits (suc count) values position =
    if is_true values (bad_at design automaton visits position) then position
    else first_bad design automaton visits count values (suc position)

-- the states at the first so many positions
abbrev pub path_in : Design → Automaton → ℕ → ℕ → Assignment → JointPath
path_in design automaton visits count values = record {
  states = map (λ position. state_in design automaton visits 0 (positions_of (joint_circuit design automaton visits) values position))
      (range_with_len 0 count);
}

-- the path that a model stands for: up to the first bad state, or of one state more than the window
abbrev pub path_of : Design → Automaton → ℕ → ℕ → Truth → Assignment → JointPath
path_of design automaton visits window true values =
    path_in design automaton visits (suc (first_bad design automaton visits window values 0)) values
path_of design automaton visits window false values = path_in design automaton visits (suc window) values
