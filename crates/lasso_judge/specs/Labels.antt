-- What a chart keeps of the labels of its arrows.
use Rattle.std.specs.Prelude.{◌≡◌, Bool as Truth, ℕ, ◌<◌, ◌/◌, ◌%◌, if◌then◌else◌, Option, None, Some, List, [], ◌∷◌, ◌++◌, length, map, slice_index, slice_index_or, IsTrue}
use Rattle.psl_tree.specs.Holds.{holds}
use Rattle.psl_tree.specs.declared.letter.Letter.{Letter}
use Rattle.psl_tree.specs.SequenceAutomata.{Edge, state_at}
use Rattle.lasso_judge.specs.Arrows.{edge_at, arrow_at, label_of}
use Rattle.lasso_judge.specs.Cells.{cell_of}
use Rattle.lasso_tables.specs.Tables.{value_at}
use Rattle.lasso_judge.specs.declared.chart.Arrow.{Arrow}
use Rattle.lasso_judge.specs.declared.chart.Chart.{Chart}

-- what is known of a cell; nothing past the end
abbrev pub known_at : List (Option Truth) → ℕ → Option Truth
known_at values cell = slice_index_or values cell None

-- the numbers of the arrows to a state
abbrev pub into_at : Chart → ℕ → List ℕ
into_at chart state = slice_index_or chart.into.items state []

-- the states that some arrows leave
abbrev pub left_by : List Arrow → List ℕ → List ℕ
left_by arrows numbers = map (λ number. (arrow_at arrows number).state) numbers

-- so many states have the states listed that the arrows to them leave
pub record AreSources (chart : Chart) (count : ℕ) (lists : List (List ℕ)) : Type 0 where
  pub same_length : length lists ≡ count
  pub each : (state : ℕ) → state < count → slice_index_or lists state [] ≡ left_by chart.arrows.items (into_at chart state)

-- so many arrows of a list have the label of the first
abbrev pub AreAlike : Chart → List ℕ → ℕ → Type 0
AreAlike chart numbers count = (index : ℕ) → index < count
    → label_of chart.nfa.states (arrow_at chart.arrows.items (slice_index numbers index))
    ≡ label_of chart.nfa.states (arrow_at chart.arrows.items (slice_index numbers 0))

-- arrows lead to the state, and all have the same label
pub record IsUniform (chart : Chart) (state : ℕ) : Type 0 where
  pub some : 0 < length (into_at chart state)
  pub alike : AreAlike chart (into_at chart state) (length (into_at chart state))

-- of so many states, only those are marked to which arrows lead that have all the same label
pub record AreUniform (chart : Chart) (count : ℕ) (marks : List Truth) : Type 0 where
  pub same_length : length marks ≡ count
  pub each : (state : ℕ) → state < count → IsTrue (value_at marks state) → IsUniform chart state

-- what is known of a cell is whether the one label of the arrows to its state holds at its place
abbrev pub IsKnown : (ℕ → Letter) → Chart → ℕ → ℕ → Option Truth → Type 0
IsKnown letter chart place state known = (value : Truth) → known ≡ Some value → IsUniform chart state
    × (value ≡ holds (letter place) (label_of chart.nfa.states (arrow_at chart.arrows.items (slice_index (into_at chart state) 0))))

-- so it is of so many cells
pub record AreKnown (letter : ℕ → Letter) (chart : Chart) (count : ℕ) (values : List (Option Truth)) : Type 0 where
  pub same_length : length values ≡ count
  pub each : (cell : ℕ) → cell < count
      → IsKnown letter chart (cell / length chart.nfa.states) (cell % length chart.nfa.states) (known_at values cell)

-- what is known at a place of an edge's target is whether the edge's label holds there
abbrev pub IsTold : (ℕ → Letter) → Chart → Edge → Type 0
IsTold letter chart edge = (place : ℕ) (value : Truth) → place < length chart.before.items
    → known_at chart.values.items (cell_of (length chart.nfa.states) place edge.target) ≡ Some value
    → value ≡ holds (letter place) edge.label

-- so it is of each edge, and the states that the arrows to each state leave are listed
pub record IsLabelled (letter : ℕ → Letter) (chart : Chart) : Type 0 where
  pub values_length : length chart.values.items ≡ chart.cells
  pub told : (state number : ℕ) → state < length chart.nfa.states → number < length (state_at chart.nfa.states state).edges
      → IsTold letter chart (edge_at (state_at chart.nfa.states state).edges number)
  pub sources : AreSources chart (length chart.nfa.states) chart.sources.items

-- the cells of a place and of some states that are not marked
abbrev pub unmarked_at : ℕ → List Truth → ℕ → List ℕ → List ℕ
unmarked_at width marks place [] = []
unmarked_at width marks place (state ∷ states) =
    (if value_at marks (cell_of width place state) then [] else cell_of width place state ∷ []) ++ unmarked_at width marks place states
