-- The search for the states from which a final state is reached: which are marked, and which of
-- these wait for the states before them.
use Rattle.std.specs.Prelude.{◌≡◌, ◌↔◌, ℕ, suc, ◌<◌, Bool as Truth, true, false, ◌==◌, if◌then◌else◌, List, [], ◌∷◌, ◌++◌, length, slice_index_or, slice_set, IsTrue}
use Rattle.psl_tree.specs.SequenceAutomata.{Edge, State, ReachesEnd}

-- whether a state is marked; none past the end is
abbrev pub is_marked : List Truth → ℕ → Truth
is_marked marks number = slice_index_or marks number false

-- the marks say of each state whether a final state is reached from it over letters Top
pub record MarksAlive (states : List State) (marks : List Truth) : Type 0 where
  pub same_length : length marks ≡ length states
  pub exact : (number : ℕ) → IsTrue (is_marked marks number) ↔ ReachesEnd states number

-- the number once for each of the edges that leads to the target
abbrev pub sources_in : ℕ → ℕ → List Edge → List ℕ
sources_in number target [] = []
sources_in number target (edge ∷ edges) = (if edge.target == target then number ∷ [] else []) ++ sources_in number target edges

-- the numbers of the states from which an edge leads to the target, where the first state has this number
abbrev pub sources_from : ℕ → ℕ → List State → List ℕ
sources_from number target [] = []
sources_from number target (state ∷ states) = sources_in number target state.edges ++ sources_from (suc number) target states

-- the lists of sources after some edges of one state: to each target its sources were added
abbrev pub AddsSources : List (List ℕ) → List (List ℕ) → ℕ → List Edge → Type 0
AddsSources old now number edges = (target : ℕ) → target < length old → slice_index_or now target [] ≡ slice_index_or old target [] ++ sources_in number target edges

-- the numbers of the final states, where the first state has this number
abbrev pub finals_from : ℕ → List State → List ℕ
finals_from number [] = []
finals_from number (state ∷ states) = (if state.is_final then number ∷ [] else []) ++ finals_from (suc number) states

-- the marks, and the marked states whose sources were not looked at yet
pub record Marking : Type 0 where
  pub marks : List Truth
  pub waiting : List ℕ

-- a state that is not marked yet is marked, and waits
abbrev pub visit : Marking → ℕ → Marking
visit marking number =
    if is_marked marking.marks number then marking
    else record { marks = slice_set marking.marks number true; waiting = marking.waiting ++ number ∷ [] }

abbrev pub visit_all : Marking → List ℕ → Marking
visit_all marking [] = marking
visit_all marking (number ∷ numbers) = visit_all (visit marking number) numbers
