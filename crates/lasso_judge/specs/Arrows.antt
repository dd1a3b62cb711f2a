-- The edges of an automaton as one list, by the state that each leads to.
use Rattle.std.specs.Prelude.{◌≡◌, false, ℕ, zero, suc, ◌*◌, ◌^◌, ◌<◌, ◌==◌, if◌then◌else◌, List, [], ◌∷◌, ◌++◌, length, map, slice_index_or}
use Rattle.psl_tree.specs.Trees.{Boolean, Const}
use Rattle.psl_tree.specs.SequenceAutomata.{Edge, State, state_at, IsSound}
use Rattle.lasso_judge.specs.declared.chart.Arrow.{Arrow}
use Rattle.lasso_judge.specs.declared.chart.Chart.{Chart}

-- the edge of a number, from 0; past the end one that no letter takes
abbrev pub edge_at : List Edge → ℕ → Edge
edge_at edges number = slice_index_or edges number (record { label = Const false; target = 0 })

-- the arrow of a number, from 0
abbrev pub arrow_at : List Arrow → ℕ → Arrow
arrow_at arrows number = slice_index_or arrows number (record { state = 0; edge = 0; target = 0 })

-- the Boolean on an arrow
abbrev pub label_of : List State → Arrow → Boolean
label_of states arrow = (edge_at (state_at states arrow.state).edges arrow.edge).label

-- the arrows of the edges of a state, whose first edge has this number
abbrev pub arrows_in : ℕ → ℕ → List Edge → List Arrow
arrows_in state number [] = []
arrows_in state number (edge ∷ edges) =
    record { state = state; edge = number; target = edge.target } ∷ arrows_in state (suc number) edges

-- the arrows of so many states
abbrev pub arrows_below : List State → ℕ → List Arrow
arrows_below states zero = []
arrows_below states (suc state) = arrows_below states state ++ arrows_in state 0 (state_at states state).edges

-- the places of a list, the first of which is this one, at which a number stands
abbrev pub places_from : ℕ → ℕ → List ℕ → List ℕ
places_from place number [] = []
places_from place number (other ∷ others) =
    (if other == number then place ∷ [] else []) ++ places_from (suc place) number others

-- the arrow is an edge of the automaton
pub record IsArrow (states : List State) (arrow : Arrow) : Type 0 where
  pub state_below : arrow.state < length states
  pub edge_below : arrow.edge < length (state_at states arrow.state).edges
  pub leads : arrow.target ≡ (edge_at (state_at states arrow.state).edges arrow.edge).target

-- the arrows are the automaton's edges, those that lead into each state are listed, and so many cells there are
pub record IsDrawn (chart : Chart) : Type 0 where
  pub sound : IsSound chart.nfa
  pub some : 0 < length chart.nfa.states
  pub arrows : chart.arrows.items ≡ arrows_below chart.nfa.states (length chart.nfa.states)
  pub real : (number : ℕ) → number < length chart.arrows.items
      → IsArrow chart.nfa.states (arrow_at chart.arrows.items number)
  pub into_length : length chart.into.items ≡ length chart.nfa.states
  pub into : (state : ℕ) → state < length chart.nfa.states
      → slice_index_or chart.into.items state []
      ≡ places_from 0 state (map (λ (arrow : Arrow). arrow.target) chart.arrows.items)
  pub cells : chart.cells ≡ length chart.before.items * length chart.nfa.states
  pub few : chart.cells < 2 ^ 64
  pub few_states : length chart.nfa.states < 2 ^ 32

-- and the places before each place are listed
pub record IsChart (next : List ℕ) (chart : Chart) : Type 0 where
  pub drawn : IsDrawn chart
  pub before_length : length chart.before.items ≡ length next
  pub before : (place : ℕ) → place < length next → slice_index_or chart.before.items place [] ≡ places_from 0 place next
