-- The bits of a joint state as values of variables, and the same bits behind other variables.
use Rattle.std.proofs.Common.{◌≡◌, ap, ◌∙◌, ℕ, zero, suc, ◌+◌, ◌-◌, ◌<◌, false, get_or, arith}
use Rattle.alternating_theory.specs.Obligations.{Automaton}
use Rattle.clauses.specs.Models.{Assignment}
use Rattle.gates_theory.specs.Circuits.{AreSame}
use Rattle.gates_theory.proofs.Literals.{shifted}
use Rattle.netlist.specs.Design.{Design}
use Rattle.joint_theory.specs.Bits.{joint_width, state_bits, AreBits}
use Rattle.joint_theory.specs.Sets.{bits_of}
use Rattle.joint_theory.specs.States.{IsState}
use Rattle.joint_theory.specs.declared.path.JointState.{JointState}
use Rattle.joint_theory.proofs.SameBits.{same-bits}
use Rattle.joint_theory.proofs.StateBits.{bits-from, moved-bits, state-sizes}

module _ (design : Design) (automaton : Automaton) (visits : ℕ) where
  abbrev width : ℕ
  width = joint_width design automaton visits

  -- they are those of the state
  pub own-bits : (x : JointState) → IsState design automaton visits x → AreBits design automaton visits 0 (bits_of design automaton visits x) x
  own-bits x is = bits-from design automaton visits 0 (bits_of design automaton visits x) x (state-sizes design automaton visits x is) each
    where
      each : (k : ℕ) → k < width → bits_of design automaton visits x (suc (0 + k)) ≡ get_or (state_bits design automaton visits x) k false
      each k below = let e : suc (0 + k) - 1 ≡ k = omega arith in ap (λ (n : ℕ). get_or (state_bits design automaton visits x) n false) e

  -- so bits are those of the state just where they have the same values
  pub bits-are : (base : ℕ) (v : Assignment) (x : JointState) → IsState design automaton visits x → AreBits design automaton visits base v x
      → AreSame width (shifted base v) (bits_of design automaton visits x)
  bits-are base v x is bits zero some few = absurd (omega arith)
  bits-are base v x is bits (suc k) some few =
      ap v (omega arith) ∙ same-bits design automaton visits 0 base (bits_of design automaton visits x) v x (own-bits x is) bits k few
      ∙ ap (λ (n : ℕ). bits_of design automaton visits x (suc n)) (omega arith)

  pub are-bits : (base : ℕ) (v : Assignment) (x : JointState) → IsState design automaton visits x
      → AreSame width (shifted base v) (bits_of design automaton visits x) → AreBits design automaton visits base v x
  are-bits base v x is same =
      moved-bits design automaton visits 0 base (bits_of design automaton visits x) v x
      (λ k below. ap v (omega arith) ∙ same (suc k) (omega arith) below ∙ ap (λ (n : ℕ). bits_of design automaton visits x (suc n)) (omega arith)) (own-bits x is)

  -- behind no variables
  pub at-none : (v w : Assignment) → AreSame width (shifted 0 v) w → AreSame width v w
  at-none v w same k some few = ap v (omega arith) ∙ same k some few

  pub from-none : (v w : Assignment) → AreSame width v w → AreSame width (shifted 0 v) w
  from-none v w same k some few = ap v (omega arith) ∙ same k some few
