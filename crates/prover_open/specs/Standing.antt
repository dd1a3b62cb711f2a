-- Joint states at the places of a path.
use Rattle.std.specs.Prelude.{◌≡◌, ℕ, suc, ◌<◌, ◌≤◌, Bool as Truth, false, List, length, slice_get, Some, All, Contains}
use Rattle.std.specs.List.Sorted.{IsStrictlyIncreasing}
use Rattle.alternating_theory.specs.Obligations.{Automaton}
use Rattle.gates_frames.specs.Paths.{valuation_of}
use Rattle.joint_theory.specs.States.{is_accepting, is_listed, may_meet, not_accepting, AreAsked, AreMet, BeginsAnew}
use Rattle.joint_theory.specs.Paths.{IsJointPath}
use Rattle.joint_theory.specs.declared.path.JointState.{JointState}
use Rattle.netlist.specs.Design.{Design}
use Rattle.psl_tree.specs.declared.letter.Letter.{Letter}
use Rattle.prover_held.specs.Lasting.{before_in, letter_in}

-- the joint state at a place of a path with these obligations
abbrev pub state_of : List (List Truth) → ℕ → List ℕ → List ℕ → ℕ → JointState
state_of path place owed pending count = record {
  before = before_in path place;
  valuation = valuation_of path place;
  owed = owed;
  pending = pending;
  count = count;
}

-- a joint state has the valuation at a place of a path, and the one before
pub record Stands (path : List (List Truth)) (place : ℕ) (state : JointState) : Type 0 where
  pub before : state.before ≡ before_in path place
  pub valuation : state.valuation ≡ valuation_of path place

-- obligations, each once and in order
pub record AreRising (automaton : Automaton) (numbers : List ℕ) : Type 0 where
  pub rising : IsStrictlyIncreasing numbers
  pub below : All (λ number. number < length automaton.obligations) numbers

-- some of those that are owed, in order, that are not accepting
pub record AreWaiting (automaton : Automaton) (owed pending : List ℕ) : Type 0 where
  pub numbers : AreRising automaton pending
  pub among : All (Contains owed) pending
  pub put_off : All (λ number. is_accepting automaton number ≡ false) pending

-- What is owed and pending is as in a joint state that is counted for no visit.
pub record AreOwed (automaton : Automaton) (state : JointState) : Type 0 where
  pub owed : AreRising automaton state.owed
  pub pending : AreWaiting automaton state.owed state.pending
  pub count : state.count ≤ 1

-- What is pending behind a state, where obligations are owed there: all of them that are not accepting where nothing was
-- pending, else some that what was pending asks for.
pub record IsPendingBy (automaton : Automaton) (letter : Letter) (now : JointState) (owed pending : List ℕ) : Type 0 where
  pub waiting : AreWaiting automaton owed pending
  pub anew : length now.pending ≡ 0 → pending ≡ not_accepting automaton owed
  pub asked : 0 < length now.pending → AreAsked automaton letter now.pending pending

-- A joint state may come behind one at a place of a path, as far as what is asked for there goes, and not what is met:
-- nothing is owed next that is not asked for; while something is pending, nothing becomes pending that this does not ask
-- for, and the count stays; and where nothing is pending, it begins anew.
pub record IsOffered (design : Design) (automaton : Automaton) (path : List (List Truth)) (place : ℕ) (now next : JointState) : Type 0 where
  pub stands : Stands path (suc place) next
  pub owes : AreOwed automaton next
  pub supported : AreAsked automaton (letter_in design path place) now.owed next.owed
  pub pending : 0 < length now.pending → AreAsked automaton (letter_in design path place) now.pending next.pending
  pub count : 0 < length now.pending → next.count ≡ now.count
  pub anew : length now.pending ≡ 0 → BeginsAnew automaton 0 now next

-- and it follows where what is owed and pending is met by it
pub record Follows (design : Design) (automaton : Automaton) (path : List (List Truth)) (place : ℕ) (now next : JointState) : Type 0 where
  pub offered : IsOffered design automaton path place now next
  pub owed : AreMet automaton (letter_in design path place) (is_listed next.owed) now.owed
  pub pending : AreMet automaton (letter_in design path place) (may_meet automaton next) now.pending

-- joint states of which each is a neighbour of the one before, at the first so many places of a path
pub record StandAlong (design : Design) (automaton : Automaton) (path : List (List Truth)) (count : ℕ) (states : List JointState) : Type 0 where
  pub size : length states ≡ count
  pub stand : (place : ℕ) (state : JointState) → slice_get states place ≡ Some state → Stands path place state
  pub owe : (place : ℕ) (state : JointState) → slice_get states place ≡ Some state → AreOwed automaton state
  pub joint : IsJointPath design automaton 0 (record { states = states })

-- the first so many lists have so many members each
abbrev pub AreLong : ℕ → ℕ → List (List Truth) → Type 0
AreLong places count hints =
    (place : ℕ) (hint : List Truth) → place < places → slice_get hints place ≡ Some hint → length hint ≡ count
