-- The joint states as a system whose states are lists of bits, and whose goal are the bad ones.
use Rattle.std.specs.Prelude.{◌≡◌, Bool as Truth, List}
use Rattle.joint.specs.Joined.{Joined}
use Rattle.joint_theory.proofs.Widths.{bad-within, bits-size}
use Rattle.joint_theory.specs.Bits.{bad_bit, joint_width, state_bits}
use Rattle.joint_theory.specs.States.{IsState, IsInitial, AreNeighbours}
use Rattle.joint_theory.specs.declared.path.JointState.{JointState}
use Rattle.reach_frames.specs.Systems.{System}

-- these are the bits of a state
pub record AreBitsOf (joined : Joined) (bits : List Truth) (state : JointState) : Type 0 where
  pub is : IsState joined.design joined.automaton joined.visits state
  pub same : bits ≡ state_bits joined.design joined.automaton joined.visits state

-- these are the bits of an initial state
pub record BeginsAs (joined : Joined) (bits : List Truth) : Type 0 where
  pub state : JointState
  pub bits_of : AreBitsOf joined bits state
  pub initial : IsInitial joined.design joined.automaton state

-- these are the bits of two neighbours
pub record FollowsAs (joined : Joined) (bits others : List Truth) : Type 0 where
  pub state : JointState
  pub next : JointState
  pub bits_of : AreBitsOf joined bits state
  pub next_of : AreBitsOf joined others next
  pub neighbours : AreNeighbours joined.design joined.automaton joined.visits state next

abbrev pub system_of : Joined → System
system_of joined = record {
  width = joint_width joined.design joined.automaton joined.visits;
  goal = bad_bit joined.design joined.automaton joined.visits;
  begins = BeginsAs joined;
  follows = FollowsAs joined;
  size = λ bits begun.
      bits-size joined.design joined.automaton joined.visits begun.state begun.bits_of.is bits begun.bits_of.same;
  sizes = λ bits others follows. (
    bits-size joined.design joined.automaton joined.visits follows.state follows.bits_of.is bits follows.bits_of.same,
    bits-size joined.design joined.automaton joined.visits follows.next follows.next_of.is others follows.next_of.same,
  );
  goal_within = bad-within joined.design joined.automaton joined.visits;
}
