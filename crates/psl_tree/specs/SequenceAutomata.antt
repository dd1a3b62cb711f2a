-- Automata over letters as plain data, and which lists of letters they accept.
use Rattle.std.specs.Prelude.{◌⊎◌, ◌≤◌, ◌<◌, ℕ, zero, suc, Bool as Truth, false, List, [], ◌∷◌, length, replicate, All, IsTrue}
use Rattle.psl_tree.specs.Holds.{holds}
use Rattle.psl_tree.specs.Trees.{Boolean}
use Rattle.psl_tree.specs.declared.letter.Letter.{Letter}
use Rattle.psl_tree.specs.declared.letter.Letter.TheVariants.{Top}

-- an edge reads one letter that its label holds on, and leads to a state
pub record Edge : Type 0 where
  pub label : Boolean
  pub target : ℕ

-- a state: whether a list may end there, and the edges that leave it
pub record State : Type 0 where
  pub is_final : Truth
  pub edges : List Edge

-- an automaton: the states where a list may begin, by number, and its states in order, from 0
pub record Automaton : Type 0 where
  pub initial : List ℕ
  pub states : List State

-- the state with no edge, where no list ends
abbrev pub no_state : State
no_state = record { is_final = false; edges = [] }

-- the state of this number; no_state past the end
abbrev pub state_at : List State → ℕ → State
state_at [] _ = no_state
state_at (state ∷ _) zero = state
state_at (_ ∷ states) (suc number) = state_at states number

-- some edge's label holds on the letter, and P holds of that edge's target
abbrev pub Steps : List Edge → Letter → (ℕ → Type 0) → Type 0
Steps [] _ _ = ⊥
Steps (edge ∷ edges) letter P = (IsTrue (holds letter edge.label) × P edge.target) ⊎ Steps edges letter P

-- a path leads from the state of this number to a final state, and each of its edges reads one letter
abbrev pub AcceptsFrom : List State → ℕ → List Letter → Type 0
AcceptsFrom states number [] = IsTrue (state_at states number).is_final
AcceptsFrom states number (letter ∷ letters) = Steps (state_at states number).edges letter (λ target. AcceptsFrom states target letters)

-- P holds of one of the numbers
abbrev pub SomeOf : List ℕ → (ℕ → Type 0) → Type 0
SomeOf [] _ = ⊥
SomeOf (number ∷ numbers) P = P number ⊎ SomeOf numbers P

-- such a path leads from an initial state
abbrev pub Accepts : Automaton → List Letter → Type 0
Accepts automaton letters = SomeOf automaton.initial (λ number. AcceptsFrom automaton.states number letters)

-- a final state is reached from the state of this number over some letters Top
abbrev pub ReachesEnd : List State → ℕ → Type 0
ReachesEnd states number = (count : ℕ) × AcceptsFrom states number (replicate count Top)

-- each edge leads to a number from low on and below high
abbrev pub LeadsWithin : ℕ → ℕ → List Edge → Type 0
LeadsWithin low high edges = All (λ edge. (low ≤ edge.target) × (edge.target < high)) edges

-- the initial states and the targets of all edges are states of the automaton
pub record IsSound (automaton : Automaton) : Type 0 where
  pub initial_below : All (λ number. number < length automaton.states) automaton.initial
  pub targets_below : (number : ℕ) → LeadsWithin 0 (length automaton.states) (state_at automaton.states number).edges
