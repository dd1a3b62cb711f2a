-- Sets of joint states by clauses over their bits. A literal names a bit by its number, which counts from 1 in the order
-- of the bits: a state meets a clause where one of the clause's literals is true of its bits, and is in a cube where all
-- of the cube's are. Such clauses show that no bad state can be reached, or how far they do (Bradley, SAT-based model
-- checking without unrolling).
use Rattle.std.specs.Prelude.{◌≡◌, ℕ, suc, ℤ, Bool as Truth, false, List, length, slice_get, Some, IsTrue, All, Contains}
use Rattle.std.specs.List.{list_all}
use Rattle.alternating_theory.specs.Obligations.{Automaton}
use Rattle.clauses.specs.Models.{Assignment, is_true, meets}
use Rattle.netlist.specs.Design.{Design}
use Rattle.run_terms.specs.Formulas.{values_of}
use Rattle.joint_theory.specs.Bits.{state_bits}
use Rattle.joint_theory.specs.States.{IsState, IsBad, IsInitial, AreNeighbours}
use Rattle.joint_theory.specs.declared.path.JointState.{JointState}

-- the bits of a joint state as values of variables
abbrev pub bits_of : Design → Automaton → ℕ → JointState → Assignment
bits_of design automaton visits state = values_of (state_bits design automaton visits state)

-- a state meets all of some clauses; where it does not, it misses one
abbrev pub is_met : Design → Automaton → ℕ → List (List ℤ) → JointState → Truth
is_met design automaton visits clauses state = list_all (meets (bits_of design automaton visits state)) clauses

-- a state meets all of a cube
abbrev pub is_in_cube : Design → Automaton → ℕ → List ℤ → JointState → Truth
is_in_cube design automaton visits cube state = list_all (is_true (bits_of design automaton visits state)) cube

-- clauses are inductive: every initial state meets all of them, so does every neighbour of a state that does, and no bad
-- state meets them all
pub record IsInductive (design : Design) (automaton : Automaton) (visits : ℕ) (clauses : List (List ℤ)) : Type 0 where
  pub initial : (state : JointState) → IsState design automaton visits state → IsInitial design automaton state
      → IsTrue (is_met design automaton visits clauses state)
  pub step : (state next : JointState) → IsState design automaton visits state → IsState design automaton visits next
      → AreNeighbours design automaton visits state next → IsTrue (is_met design automaton visits clauses state)
      → IsTrue (is_met design automaton visits clauses next)
  pub bad : (state : JointState) → IsState design automaton visits state → IsBad visits state
      → is_met design automaton visits clauses state ≡ false

-- Frames, which are lists of clauses, one for each number of steps from 1 on. Every initial state and every neighbour of
-- one meets the first frame; every neighbour of a state that meets a frame meets the next one, whose clauses are among
-- the frame's; and no bad state meets any. For each frame but the last there is a state that is stuck: it meets the next
-- frame and misses a clause of this one, so that the two are different sets.
pub record AreFrames (design : Design) (automaton : Automaton) (visits : ℕ) (frames : List (List (List ℤ))) (stuck : List JointState) : Type 0 where
  pub initial : (frame : List (List ℤ)) (state : JointState) → slice_get frames 0 ≡ Some frame
      → IsState design automaton visits state → IsInitial design automaton state → IsTrue (is_met design automaton visits frame state)
  pub first : (frame : List (List ℤ)) (state next : JointState) → slice_get frames 0 ≡ Some frame
      → IsState design automaton visits state → IsState design automaton visits next → IsInitial design automaton state
      → AreNeighbours design automaton visits state next → IsTrue (is_met design automaton visits frame next)
  pub step : (place : ℕ) (frame later : List (List ℤ)) (state next : JointState) → slice_get frames place ≡ Some frame
      → slice_get frames (suc place) ≡ Some later → IsState design automaton visits state
      → IsState design automaton visits next → AreNeighbours design automaton visits state next
      → IsTrue (is_met design automaton visits frame state) → IsTrue (is_met design automaton visits later next)
  pub among : (place : ℕ) (frame later : List (List ℤ)) → slice_get frames place ≡ Some frame
      → slice_get frames (suc place) ≡ Some later → All (Contains frame) later
  pub bad : (place : ℕ) (frame : List (List ℤ)) (state : JointState) → slice_get frames place ≡ Some frame
      → IsState design automaton visits state → IsBad visits state → is_met design automaton visits frame state ≡ false
  pub many : suc (length stuck) ≡ length frames
  pub states : All (IsState design automaton visits) stuck
  pub shown : (place : ℕ) (frame later : List (List ℤ)) (state : JointState) → slice_get frames place ≡ Some frame
      → slice_get frames (suc place) ≡ Some later → slice_get stuck place ≡ Some state
      → IsTrue (is_met design automaton visits later state) × (is_met design automaton visits frame state ≡ false)
