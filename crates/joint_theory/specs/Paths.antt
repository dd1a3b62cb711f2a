-- Paths of joint states, and those that keep a window open.
use Rattle.std.specs.Prelude.{◌≡◌, ℕ, suc, ◌-◌, ◌<◌, ◌≤◌, Bool as Truth, true, false, length, slice_get, Some, All}
use Rattle.alternating_theory.specs.Obligations.{Automaton}
use Rattle.netlist.specs.Design.{Design}
use Rattle.joint_theory.specs.States.{IsState, IsBad, IsInitial, AreNeighbours}
use Rattle.joint_theory.specs.declared.path.JointPath.{JointPath}
use Rattle.joint_theory.specs.declared.path.JointState.{JointState}

-- joint states of which each is a neighbour of the one before it
pub record IsJointPath (design : Design) (automaton : Automaton) (visits : ℕ) (path : JointPath) : Type 0 where
  pub states : All (IsState design automaton visits) path.states
  pub neighbours : (place : ℕ) (state next : JointState) → slice_get path.states place ≡ Some state
      → slice_get path.states (suc place) ≡ Some next → AreNeighbours design automaton visits state next

-- at most so many states as the window, of which the first is initial and the last is bad
pub record IsOpenInitial (design : Design) (automaton : Automaton) (visits window : ℕ) (path : JointPath) : Type 0 where
  pub joint : IsJointPath design automaton visits path
  pub few : length path.states ≤ window
  pub first : (state : JointState) × (slice_get path.states 0 ≡ Some state) × IsInitial design automaton state
  pub last : (state : JointState) × (slice_get path.states (length path.states - 1) ≡ Some state) × IsBad visits state

-- so many states as the window, pairwise different and not bad, and then a bad one
pub record IsOpenOther (design : Design) (automaton : Automaton) (visits window : ℕ) (path : JointPath) : Type 0 where
  pub joint : IsJointPath design automaton visits path
  pub many : length path.states ≡ suc window
  pub different : (place later : ℕ) → place < later → later < window
      → slice_get path.states place ≡ slice_get path.states later → ⊥
  pub not_bad : (place : ℕ) (state : JointState) → place < window → slice_get path.states place ≡ Some state
      → IsBad visits state → ⊥
  pub last : (state : JointState) × (slice_get path.states window ≡ Some state) × IsBad visits state

-- an open path at a window: of the initial kind, or of the other
abbrev pub IsOpen : Design → Automaton → ℕ → ℕ → Truth → JointPath → Type 0
IsOpen design automaton visits window true path = IsOpenInitial design automaton visits window path
IsOpen design automaton visits window false path = IsOpenOther design automaton visits window path

-- there is no open path of either kind at the window
abbrev pub IsClosedAt : Design → Automaton → ℕ → ℕ → Type 0
IsClosedAt design automaton visits window = (initial : Truth) (path : JointPath)
    → IsOpen design automaton visits window initial path → ⊥

-- there is an open path of a kind at the window
abbrev pub SomeOpen : Design → Automaton → ℕ → ℕ → Truth → Type 0
SomeOpen design automaton visits window initial =
    ((path : JointPath) → IsOpen design automaton visits window initial path → ⊥) → ⊥
