-- From which states of a sequence's automaton an end is reached, as a test that computes.
use Rattle.std.specs.Prelude.{Bool as Truth, false, ◌||◌, ℕ, zero, suc, List, [], ◌∷◌, ◌++◌, length}
use Rattle.psl_tree.specs.SequenceAutomata.{Edge, State, Automaton, state_at}

-- some edge leads to a state that passes the test
abbrev pub leads : (ℕ → Truth) → List Edge → Truth
leads test [] = false
leads test (edge ∷ edges) = test edge.target || leads test edges

-- a final state is reached over at most so many edges, whatever their labels are
abbrev pub ends_within : ℕ → List State → ℕ → Truth
ends_within zero states number = (state_at states number).is_final
ends_within (suc count) states number = ends_within count states number || leads (ends_within count states) (state_at states number).edges

-- a final state is reached, whatever the labels are: where one is, so many edges as states suffice
abbrev pub is_alive : List State → ℕ → Truth
is_alive states number = ends_within (length states) states number

-- some edge leads to a state from which a final one is reached
abbrev pub goes_on : List State → List Edge → Truth
goes_on states edges = leads (is_alive states) edges

-- the edges that leave the states of these numbers
abbrev pub edges_of_all : List State → List ℕ → List Edge
edges_of_all states [] = []
edges_of_all states (number ∷ numbers) = (state_at states number).edges ++ edges_of_all states numbers

-- the edges on which an automaton reads its first letter
abbrev pub entry : Automaton → List Edge
entry automaton = edges_of_all automaton.states automaton.initial
