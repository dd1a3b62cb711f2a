-- The program's edges, states and parts as plain data.
use Rattle.std.specs.Prelude.{ℕ, ◌≤◌, ◌<◌, List, map, All}
use Rattle.std.specs.Option.{option_map}
use Rattle.psl_tree.specs.Trees.{boolean_of}
use Rattle.psl_tree.specs.SequenceAutomata.{Edge, State}
use Rattle.psl_tree.specs.SequenceConstruction.{Draft, Part}
use Rattle.sere_nfa.specs.declared.edge.NfaEdge.{NfaEdge}
use Rattle.sere_nfa.specs.declared.state.State as code_state
use Rattle.sere_nfa.specs.declared.part.Part as code_part

abbrev pub edge_of : NfaEdge → Edge
edge_of edge = record { label = boolean_of edge.label; target = edge.target }

abbrev pub edges_of : List NfaEdge → List Edge
edges_of edges = map edge_of edges

abbrev pub state_of : code_state.State → State
state_of state = record { is_final = state.is_final; edges = edges_of state.edges }

abbrev pub states_of_code : List code_state.State → List State
states_of_code states = map state_of states

-- a state with all that it keeps while the automaton is made
abbrev pub draft_of : code_state.State → Draft
draft_of state = record {
  is_final = state.is_final;
  edges = edges_of state.edges;
  ending = option_map boolean_of state.ending;
}

abbrev pub drafts_of : List code_state.State → List Draft
drafts_of states = map draft_of states

abbrev pub part_of_code : code_part.Part → Part
part_of_code part = record { start = draft_of part.start; states = drafts_of part.states.items }

-- each edge leads to a state from low on and below high
abbrev pub TargetsWithin : ℕ → ℕ → List NfaEdge → Type 0
TargetsWithin low high edges = All (λ edge. (low ≤ edge.target) × (edge.target < high)) edges

-- so does each edge of each state
abbrev pub StatesWithin : ℕ → ℕ → List code_state.State → Type 0
StatesWithin low high states = All (λ state. TargetsWithin low high state.edges) states

-- so does each edge of a part
abbrev pub PartWithin : ℕ → ℕ → code_part.Part → Type 0
PartWithin low high part = TargetsWithin low high part.start.edges × StatesWithin low high part.states.items
