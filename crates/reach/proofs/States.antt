-- Bits tell which joint state they are of.
use Rattle.std.proofs.Common.{◌≡◌, sym, ap, ◌∙◌, subst, Bool as Truth, List}
use Rattle.std.specs.Prelude.{IsTrue}
use Rattle.clauses.specs.Models.{is_true}
use Rattle.joint.specs.Joined.{Joined}
use Rattle.joint_theory.proofs.OwnBits.{own-bits}
use Rattle.joint_theory.proofs.PathReads.{bad-from, bad-says}
use Rattle.joint_theory.proofs.StateBits.{read-back}
use Rattle.joint_theory.specs.Bits.{bad_bit, state_bits, state_in}
use Rattle.joint_theory.specs.Sets.{bits_of}
use Rattle.joint_theory.specs.States.{AreNeighbours, IsBad, IsInitial, IsState}
use Rattle.joint_theory.specs.declared.path.JointState.{JointState}
use Rattle.run_terms.specs.Formulas.{values_of}
use Rattle.reach.specs.Systems.{BeginsAs, FollowsAs}

module _ (joined : Joined) where
  abbrev pub IsOf : JointState → Type 0
  IsOf state = IsState joined.design joined.automaton joined.visits state

  abbrev pub bits_in : JointState → List Truth
  bits_in state = state_bits joined.design joined.automaton joined.visits state

  abbrev read : List Truth → JointState
  read bits = state_in joined.design joined.automaton joined.visits 0 (values_of bits)

  read-own : (state : JointState) → IsOf state → read (bits_in state) ≡ state
  read-own state is =
      read-back joined.design joined.automaton joined.visits 0 (bits_of joined.design joined.automaton joined.visits state) state
      (own-bits joined.design joined.automaton joined.visits state is) is

  pub same-state : (state other : JointState) → IsOf state → IsOf other → bits_in state ≡ bits_in other → state ≡ other
  same-state state other is is_other same = sym (read-own state is) ∙ ap read same ∙ read-own other is_other

  -- so a state whose bits begin is initial, and two whose bits follow one another are neighbours
  pub initial-of : (bits : List Truth) (state : JointState) → BeginsAs joined bits → IsOf state → bits ≡ bits_in state
      → IsInitial joined.design joined.automaton state
  initial-of bits state begun is same =
      subst (λ (s : JointState). IsInitial joined.design joined.automaton s)
      (same-state begun.state state begun.bits_of.is is (sym begun.bits_of.same ∙ same)) begun.initial

  pub neighbours-of : (bits others : List Truth) (state next : JointState) → FollowsAs joined bits others → IsOf state → IsOf next
      → bits ≡ bits_in state → others ≡ bits_in next → AreNeighbours joined.design joined.automaton joined.visits state next
  neighbours-of bits others state next follows is is_next same same_next =
      subst (λ (s : JointState). AreNeighbours joined.design joined.automaton joined.visits state s)
      (same-state follows.next next follows.next_of.is is_next (sym follows.next_of.same ∙ same_next))
      (subst (λ (s : JointState). AreNeighbours joined.design joined.automaton joined.visits s follows.next)
      (same-state follows.state state follows.bits_of.is is (sym follows.bits_of.same ∙ same)) follows.neighbours)

  -- a state is bad where the bit of the goal is true
  pub bad-of : (state : JointState) → IsOf state → IsBad joined.visits state
      → IsTrue (is_true (values_of (bits_in state)) (bad_bit joined.design joined.automaton joined.visits))
  bad-of state is bad =
      bad-from joined.design joined.automaton joined.visits (bits_of joined.design joined.automaton joined.visits state) state
      (own-bits joined.design joined.automaton joined.visits state is) bad

  pub of-bad : (state : JointState) → IsOf state
      → IsTrue (is_true (values_of (bits_in state)) (bad_bit joined.design joined.automaton joined.visits)) → IsBad joined.visits state
  of-bad state is goal =
      bad-says joined.design joined.automaton joined.visits (bits_of joined.design joined.automaton joined.visits state) state
      (own-bits joined.design joined.automaton joined.visits state is) goal
