-- How many bits a state has, and that the bit of the bad ones is one of them.
use Rattle.std.proofs.Common.{◌≡◌, ap, ◌∙◌, ℕ, Bool as Truth, List, length, arith}
use Rattle.std.specs.Prelude.{IsTrue}
use Rattle.alternating_theory.specs.Obligations.{Automaton}
use Rattle.clauses.specs.Literals.{is_within}
use Rattle.joint_theory.specs.Bits.{bad_bit, joint_width, state_bits}
use Rattle.joint_theory.specs.States.{IsState}
use Rattle.joint_theory.specs.declared.path.JointState.{JointState}
use Rattle.netlist.specs.Design.{Design}
use Rattle.run_terms.proofs.Logic.{pos_within}
use Rattle.joint_theory.proofs.StateBits.{length-bits, state-sizes}

module _ (design : Design) (automaton : Automaton) (visits : ℕ) where
  pub bad-within : IsTrue (is_within (joint_width design automaton visits) (bad_bit design automaton visits))
  bad-within = pos_within (joint_width design automaton visits) _ (omega arith) (omega arith)

  pub bits-size : (state : JointState) → IsState design automaton visits state → (bits : List Truth)
      → bits ≡ state_bits design automaton visits state → length bits ≡ joint_width design automaton visits
  bits-size state is bits same =
      ap length same ∙ length-bits design automaton visits state (state-sizes design automaton visits state is)
