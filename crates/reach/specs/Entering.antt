-- What makes two neighbours an entry into a cube, as literals tell it.
use Rattle.std.specs.Prelude.{◌≡◌, ℤ, Bool as Truth, false, cond, List, [], ◌++◌, map, IsTrue}
use Rattle.gates_theory.specs.Unrolled.{moved}
use Rattle.joint.specs.Joined.{Joined}
use Rattle.joint_theory.specs.Bits.{joint_width}
use Rattle.joint_theory.specs.Queries.{start_literals}
use Rattle.reach_frames.specs.Bits.{is_in_cube, is_met}
use Rattle.reach_frames.specs.declared.entry.Entry.{Entry}

-- The first state meets a frame and is outside the cube, and the second is in it; and where it is asked that the first is
-- initial, the literals of initial states are true of it.
pub record DoesLead (joined : Joined) (frame : List (List ℤ)) (initial : Truth) (cube : List ℤ) (entry : Entry) : Type 0 where
  pub meets : IsTrue (is_met frame entry.before)
  pub outside : is_in_cube cube entry.before ≡ false
  pub inside : IsTrue (is_in_cube cube entry.after)
  pub begins : IsTrue initial
      → IsTrue (is_in_cube (start_literals joined.design joined.automaton joined.visits) entry.before)

-- the literals that are asked of two neighbours: the second is in the cube, and the first is initial where that is asked
abbrev pub asked_of : Joined → Truth → List ℤ → List ℤ
asked_of joined initial cube =
    map (moved (joint_width joined.design joined.automaton joined.visits)) cube
    ++ cond initial (start_literals joined.design joined.automaton joined.visits) []
