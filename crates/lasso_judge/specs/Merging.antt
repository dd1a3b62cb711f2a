-- Automata whose states that are alike are one.
use Rattle.std.specs.Prelude.{◌≡◌, ◌↔◌, ◌==◌, ℕ, zero, suc, ◌-◌, ◌<◌, ◌≤◌, Bool as Truth, false, if◌then◌else◌, List, [], ◌∷◌, ◌++◌, length, map, slice_index, IsTrue}
use Rattle.psl_tree.specs.declared.letter.Letter.{Letter}
use Rattle.psl_tree.specs.SequenceAutomata.{Edge, State, no_state, state_at, AcceptsFrom, ReachesEnd}
use Rattle.lasso_tables.specs.Tables.{value_at}

-- from its last state an automaton reads the same lists as another, which has as many states
pub record IsMerged (old new : List State) : Type 0 where
  pub same_length : length new ≡ length old
  pub same_lists : (letters : List Letter) → AcceptsFrom new (length old - 1) letters ↔ AcceptsFrom old (length old - 1) letters

-- an edge, led to the state that stands for its target
abbrev pub led : List ℕ → Edge → Edge
led classes edge = record { label = edge.label; target = slice_index classes edge.target }

-- a state with its edges led
abbrev pub kept_at : List ℕ → List State → ℕ → State
kept_at classes states number = record {
  is_final = (state_at states number).is_final;
  edges = map (λ edge. led classes edge) (state_at states number).edges;
}

-- a state that stands for itself has its edges, led; another has none
abbrev pub merged_at : List ℕ → List State → ℕ → State
merged_at classes states number =
    if slice_index classes number == number then kept_at classes states number else no_state

-- so many states
abbrev pub merged_below : List ℕ → List State → ℕ → List State
merged_below classes states zero = []
merged_below classes states (suc number) = merged_below classes states number ++ merged_at classes states number ∷ []

-- a number may stand for a state, where those before it have these numbers
pub record IsClass (states : List State) (classes : List ℕ) (state class : ℕ) : Type 0 where
  pub below : class ≤ state
  pub first : class < state → slice_index classes class ≡ class
  pub alike : state_at states class ≡ state_at states state
  pub last : suc state ≡ length states → class ≡ state

-- so many states have a number that may stand for them
pub record AreClasses (states : List State) (count : ℕ) (classes : List ℕ) : Type 0 where
  pub same_length : length classes ≡ count
  pub each : (state : ℕ) → state < count → IsClass states classes state (slice_index classes state)

-- a mark says whether a final state is reached from a state that stands for itself; there is none where
-- another stands for it
pub record IsAlive (states : List State) (classes : List ℕ) (state : ℕ) (mark : Truth) : Type 0 where
  pub kept : slice_index classes state ≡ state → IsTrue mark ↔ ReachesEnd states state
  pub dropped : (slice_index classes state ≡ state → ⊥) → mark ≡ false

-- so do the marks of so many states
pub record MergedAlive (states : List State) (classes : List ℕ) (count : ℕ) (marks : List Truth) : Type 0 where
  pub same_length : length marks ≡ count
  pub exact : (state : ℕ) → state < count → IsAlive states classes state (value_at marks state)
