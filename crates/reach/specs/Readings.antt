-- Joint states that are read back from their bits.
use Rattle.std.specs.Prelude.{◌≡◌, Bool as Truth, List, All, map}
use Rattle.joint.specs.Joined.{Joined}
use Rattle.joint_theory.specs.Bits.{state_bits}
use Rattle.joint_theory.specs.States.{IsState}
use Rattle.joint_theory.specs.declared.path.JointState.{JointState}
use Rattle.reach.specs.Systems.{AreBitsOf}

-- these are the bits of some state
abbrev pub HasState : Joined → List Truth → Type 0
HasState joined bits = (state : JointState) × AreBitsOf joined bits state

-- these are joint states, and those are their bits, in order
pub record AreRead (joined : Joined) (path : List (List Truth)) (states : List JointState) : Type 0 where
  pub are : All (IsState joined.design joined.automaton joined.visits) states
  pub bits : map (state_bits joined.design joined.automaton joined.visits) states ≡ path
