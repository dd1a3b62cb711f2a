-- Cells: the states of an automaton at the places of a course. Which paths lead on from a cell, and the
-- searches for these.
use Rattle.std.specs.Prelude.{◌≡◌, ◌↔◌, Bool as Truth, false, not, ◌&&◌, ◌||◌, ℕ, zero, suc, ◌+◌, ◌*◌, ◌/◌, ◌%◌, ◌<◌, if◌then◌else◌, List, [], ◌∷◌, ◌++◌, length, slice_index, IsTrue}
use Rattle.std.specs.List.{list_any}
use Rattle.psl_tree.specs.Classical.{Exists}
use Rattle.psl_tree.specs.Trace.{first, cut}
use Rattle.psl_tree.specs.Holds.{holds}
use Rattle.psl_tree.specs.declared.letter.Letter.{Letter}
use Rattle.psl_tree.specs.SequenceAutomata.{Edge, State, state_at, AcceptsFrom, ReachesEnd}
use Rattle.sere_nfa.specs.Marking.{Marking, visit}
use Rattle.alternating_theory.specs.Courses.{Course, walk, read_from}
use Rattle.lasso_judge.specs.Arrows.{edge_at, arrow_at, label_of}
use Rattle.lasso_tables.specs.Tables.{value_at}
use Rattle.lasso_judge.specs.declared.chart.Arrow.{Arrow}

-- the number of a cell, of so many states
abbrev pub cell_of : ℕ → ℕ → ℕ → ℕ
cell_of width place state = place * width + state

-- a path from the state leads to an end, and its last letter is read at a place of the table
abbrev pub HitsFrom : List State → Course → List Truth → ℕ → ℕ → Type 0
HitsFrom states course hits place state =
    Exists (λ j. AcceptsFrom states state (first (suc j) (read_from course place))
    × IsTrue (value_at hits (walk course.next j place)))

-- a prefix is read from the state wherever the course is cut
abbrev pub LastsFrom : List State → Course → ℕ → ℕ → Type 0
LastsFrom states course place state =
    (j : ℕ) → Exists (λ i. AcceptsFrom states state (first (suc i) (cut (read_from course place) (suc j))))

-- the cells from which such a path leads to a hit
pub record AreHits (states : List State) (course : Course) (count : ℕ) (hits cells : List Truth) : Type 0 where
  pub same_length : length cells ≡ count * length states
  pub exact : (place state : ℕ) → place < count → state < length states
      → IsTrue (value_at cells (cell_of (length states) place state)) ↔ HitsFrom states course hits place state

-- the cells from which the sequence does not last
pub record AreFallen (states : List State) (course : Course) (count : ℕ) (cells : List Truth) : Type 0 where
  pub same_length : length cells ≡ count * length states
  pub exact : (place state : ℕ) → place < count → state < length states
      → IsTrue (not (value_at cells (cell_of (length states) place state))) ↔ LastsFrom states course place state

-- some edge on whose label the letter holds leads to an end
abbrev pub ends_on : List State → Letter → List Edge → Truth
ends_on states letter edges =
    list_any (λ (edge : Edge). holds letter edge.label && (state_at states edge.target).is_final) edges

-- the last letter of a path of length 1 from the cell is read at a hit
abbrev pub ends_at : List State → (ℕ → Letter) → List Truth → ℕ → Truth
ends_at states letter hits cell =
    value_at hits (cell / length states)
    && ends_on states (letter (cell / length states)) (state_at states (cell % length states)).edges

-- the numbers below a bound that pass a test
abbrev pub numbers_below : (ℕ → Truth) → ℕ → List ℕ
numbers_below test zero = []
numbers_below test (suc number) = numbers_below test number ++ (if test number then number ∷ [] else [])

-- the cells of a place from which these arrows can be taken
abbrev pub cells_at : List State → (ℕ → Letter) → List Arrow → ℕ → List ℕ → List ℕ
cells_at states letter arrows place [] = []
cells_at states letter arrows place (number ∷ numbers) =
    (if holds (letter place) (label_of states (arrow_at arrows number))
    then cell_of (length states) place (arrow_at arrows number).state ∷ [] else [])
    ++ cells_at states letter arrows place numbers

-- those of several places
abbrev pub cells_back : List State → (ℕ → Letter) → List Arrow → List ℕ → List ℕ → List ℕ
cells_back states letter arrows [] numbers = []
cells_back states letter arrows (place ∷ places) numbers =
    cells_at states letter arrows place numbers ++ cells_back states letter arrows places numbers

-- the same without the cells that are marked
abbrev pub fresh_at : List State → (ℕ → Letter) → List Arrow → List Truth → ℕ → List ℕ → List ℕ
fresh_at states letter arrows marks place [] = []
fresh_at states letter arrows marks place (number ∷ numbers) =
    (if not (value_at marks (cell_of (length states) place (arrow_at arrows number).state))
    && holds (letter place) (label_of states (arrow_at arrows number))
    then cell_of (length states) place (arrow_at arrows number).state ∷ [] else [])
    ++ fresh_at states letter arrows marks place numbers

abbrev pub fresh_back : List State → (ℕ → Letter) → List Arrow → List Truth → List ℕ → List ℕ → List ℕ
fresh_back states letter arrows marks [] numbers = []
fresh_back states letter arrows marks (place ∷ places) numbers =
    fresh_at states letter arrows marks place numbers ++ fresh_back states letter arrows marks places numbers

-- each state is marked from which no final state is reached, over letters Top
pub record AreDead (states : List State) (cells : ℕ) (marks : List Truth) : Type 0 where
  pub same_length : length marks ≡ cells
  pub exact : (cell : ℕ) → cell < cells → IsTrue (not (value_at marks cell)) ↔ ReachesEnd states (cell % length states)

-- some edge on whose label the letter holds leads to an end, or to a cell that is not marked: that of its
-- target at the place whose first cell this is
abbrev pub goes_on : List State → Letter → List Truth → ℕ → List Edge → Truth
goes_on states letter marks first edges =
    list_any (λ (edge : Edge). holds letter edge.label
    && ((state_at states edge.target).is_final || not (value_at marks (first + edge.target)))) edges

-- one edge does
abbrev pub goes_along : List State → Letter → List Truth → ℕ → Edge → Truth
goes_along states letter marks first edge =
    holds letter edge.label && ((state_at states edge.target).is_final || not (value_at marks (first + edge.target)))

-- none of so many first edges does
abbrev pub NoneGoes : List State → Letter → List Truth → ℕ → List Edge → ℕ → Type 0
NoneGoes states letter marks first edges count =
    (number : ℕ) → number < count → goes_along states letter marks first (edge_at edges number) ≡ false

-- the same of a cell
abbrev pub lasts_at : List State → (ℕ → Letter) → List ℕ → List Truth → ℕ → Truth
lasts_at states letter next marks cell =
    goes_on states (letter (cell / length states)) marks (slice_index next (cell / length states) * length states)
    (state_at states (cell % length states)).edges

-- each cell passed so many of its first edges: none of these does
pub record ArePassed (states : List State) (letter : ℕ → Letter) (next : List ℕ) (cells : ℕ) (marks : List Truth) (passed : List ℕ) : Type 0 where
  pub same_length : length passed ≡ cells
  pub none : (cell : ℕ) → cell < cells
      → NoneGoes states (letter (cell / length states)) marks (slice_index next (cell / length states) * length states)
      (state_at states (cell % length states)).edges (slice_index passed cell)

-- a cell from which the sequence does not go on is visited
abbrev pub fall : List State → (ℕ → Letter) → List ℕ → Marking → ℕ → Marking
fall states letter next marking cell =
    if lasts_at states letter next marking.marks cell then marking else visit marking cell

abbrev pub fall_all : List State → (ℕ → Letter) → List ℕ → Marking → List ℕ → Marking
fall_all states letter next marking [] = marking
fall_all states letter next marking (cell ∷ cells) =
    fall_all states letter next (fall states letter next marking cell) cells

-- numbers that count up, so many from one on
abbrev pub counted_from : ℕ → ℕ → List ℕ
counted_from first zero = []
counted_from first (suc count) = first ∷ counted_from (suc first) count

-- the cells that fall first, beside those of dead states
pub record IsFirstFallen (states : List State) (letter : ℕ → Letter) (next : List ℕ) (cells : ℕ) (marking : Marking) : Type 0 where
  pub dead : List Truth
  pub are_dead : AreDead states cells dead
  pub falls : marking ≡ fall_all states letter next (record { marks = dead; waiting = [] }) (counted_from 0 cells)
