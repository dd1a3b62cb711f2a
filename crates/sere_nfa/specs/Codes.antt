-- Codes of automata, by which proofs tell two of them apart.
use Rattle.std.specs.Prelude.{ℕ, Bool as Truth, List, refl}
use Rattle.std.specs.Coded.{Coded, code_by, coded×, coded_ℕ, coded_bool, coded_list}
use Rattle.psl_tree.specs.Codes.{boolean_code}
use Rattle.psl_tree.specs.Trees.{Boolean}
use Rattle.psl_tree.specs.SequenceAutomata.{Edge, State, Automaton}

abbrev pub edge_code : Coded Edge
edge_code = code_by (Boolean × ℕ) (coded× boolean_code coded_ℕ) (λ edge. (edge.label, edge.target)) (λ pair. record { label = pair.0; target = pair.1 }) (λ _. refl)

abbrev pub state_code : Coded State
state_code = code_by (Truth × List Edge) (coded× coded_bool (coded_list edge_code)) (λ state. (state.is_final, state.edges)) (λ pair. record { is_final = pair.0; edges = pair.1 }) (λ _. refl)

abbrev pub automaton_code : Coded Automaton
automaton_code = code_by (List ℕ × List State) (coded× (coded_list coded_ℕ) (coded_list state_code)) (λ automaton. (automaton.initial, automaton.states)) (λ pair. record { initial = pair.0; states = pair.1 }) (λ _. refl)
