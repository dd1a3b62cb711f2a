-- The joint state that is read of its own bits.
use Rattle.std.proofs.Common.{◌≡◌, sym, ap, ◌∙◌, subst, ℕ, suc, ◌+◌, ◌≤◌, Bool as Truth, List, length, Ok, Err, arith}
use Rattle.std.specs.Prelude.{Result, IfOk}
use Rattle.alternating_theory.specs.Obligations.{Automaton}
use Rattle.netlist.specs.Design.{Design}
use Rattle.psl_base.specs.declared.items.NoMemory.{NoMemory}
use Rattle.run_terms.specs.Formulas.{values_of}
use Rattle.joint_theory.specs.Bits.{joint_width, state_bits, state_in}
use Rattle.joint_theory.specs.Sets.{bits_of}
use Rattle.joint_theory.specs.States.{IsState}
use Rattle.joint_theory.specs.declared.path.JointState.{JointState}
use Rattle.joint_theory.proofs.OwnBits.{own-bits}
use Rattle.joint_theory.proofs.StateBits.{length-bits, moved-bits, read-back, state-sizes}

module _ (design : Design) (automaton : Automaton) (visits : ℕ) (values : List Truth) where
  -- there is a state whose bits these are
  abbrev pub AreOwn : Type 0
  AreOwn = (state : JointState) × IsState design automaton visits state × (values ≡ state_bits design automaton visits state)

  pub own-length : AreOwn → joint_width design automaton visits ≤ length values
  own-length own =
      omega (arith, ap length own.2, length-bits design automaton visits own.0 (state-sizes design automaton visits own.0 own.1))

  -- it is the one that they are read as
  own-read : (own : AreOwn) → state_in design automaton visits 0 (λ variable. values_of values (0 + variable)) ≡ own.0
  own-read own =
      read-back design automaton visits 0 (λ variable. values_of values (0 + variable)) own.0
      (moved-bits design automaton visits 0 0 (bits_of design automaton visits own.0) (λ variable. values_of values (0 + variable)) own.0
      (λ k below. ap (values_of values) (omega arith) ∙ ap (λ (bits : List Truth). values_of bits (suc (0 + k))) own.2)
      (own-bits design automaton visits own.0 own.1)) own.1

  module _ (own : AreOwn) (result : Result JointState NoMemory)
      (read : IfOk result (λ state. state ≡ state_in design automaton visits 0 (λ variable. values_of values (0 + variable)))) where
    pub own-state : IfOk result (λ state. IsState design automaton visits state)
    own-state = by result read
      where
        by : (r : Result JointState NoMemory) → IfOk r (λ state. state ≡ state_in design automaton visits 0 (λ variable. values_of values (0 + variable)))
            → IfOk r (λ state. IsState design automaton visits state)
        by (Ok state) is = subst (IsState design automaton visits) (sym (is ∙ own-read own)) own.1
        by (Err fault) is = tt

    pub own-again : IfOk result (λ state. state_bits design automaton visits state ≡ values)
    own-again = by result read
      where
        by : (r : Result JointState NoMemory) → IfOk r (λ state. state ≡ state_in design automaton visits 0 (λ variable. values_of values (0 + variable)))
            → IfOk r (λ state. state_bits design automaton visits state ≡ values)
        by (Ok state) is = ap (state_bits design automaton visits) (is ∙ own-read own) ∙ sym own.2
        by (Err fault) is = tt
