-- Values of the gates of a pair with which all that is held is true are those of two neighbours.
use Rattle.std.proofs.Common.{◌≡◌, sym, ap, ◌∙◌, subst, ℕ, zero, suc, ◌+◌, ◌-◌, ◌*◌, ◌<◌, Bool as Truth, false, List, length, get_or, arith}
use Rattle.std.specs.Prelude.{IsTrue}
use Rattle.std.specs.List.{list_all}
use Rattle.std.proofs.lemmas.List.{ext_get_or}
use Rattle.alternating_theory.specs.Obligations.{Automaton}
use Rattle.clauses.specs.Models.{Assignment, IsModel, is_true, meets}
use Rattle.gates_theory.specs.declared.circuit.Circuit.{Circuit}
use Rattle.gates_theory.specs.Circuits.{gates_hold}
use Rattle.gates_theory.specs.Relations.{circuit_of}
use Rattle.gates_theory.specs.Unrolled.{units, unrolled}
use Rattle.gates_theory.proofs.Chains.{relation-sound}
use Rattle.gates_theory.proofs.Models.{path-model}
use Rattle.gates_theory.proofs.Parts.{units-met}
use Rattle.netlist.specs.Design.{Design}
use Rattle.netlist.specs.Sound as netlists
use Rattle.run_terms.specs.Automata as automata
use Rattle.run_terms.specs.Automata.{TestsSignals}
use Rattle.run_terms.specs.Formulas.{values_of, whole}
use Rattle.joint_theory.specs.Bits.{joint_width, state_bits, state_in, AreBits}
use Rattle.joint_theory.specs.Reaching.{two_states}
use Rattle.joint_theory.specs.States.{IsState}
use Rattle.joint_theory.specs.declared.path.JointState.{JointState}
use Rattle.joint_theory.proofs.OwnBits.{bits-are}
use Rattle.joint_theory.proofs.Pairs.{two-closed, two-reads}
use Rattle.joint_theory.proofs.Parts.{append-from}
use Rattle.joint_theory.proofs.StateBits.{length-bits, state-sizes}
use Rattle.joint.specs.Values.{AreBitsOfNeighbours}

-- what holds of values holds of them at the first position
at-one : (P : Assignment → Type 0) (size : ℕ) (v : Assignment) → P v → (position : ℕ) → position < 1 → P (λ gate. v (position * size + gate))
at-one P size v h zero below = subst P (λ i gate. v (e gate i)) h
  where
    e : (gate : ℕ) → gate ≡ 0 * size + gate
    e gate = grind arith
at-one P size v h (suc position) below = absurd (omega arith)

module _ (design : Design) (automaton : Automaton) (visits : ℕ) where
  abbrev width : ℕ
  width = joint_width design automaton visits

  -- bits that stand in values where those of a state do are those of the state
  read-bits : (base : ℕ) (values bits : List Truth) (x : JointState) → IsState design automaton visits x → AreBits design automaton visits base (values_of values) x
      → length bits ≡ width → ((place : ℕ) → place < length bits → get_or values (base + place) false ≡ get_or bits place false)
      → bits ≡ state_bits design automaton visits x
  read-bits base values bits x is are long same =
      ext_get_or false bits (state_bits design automaton visits x) (long ∙ sym (length-bits design automaton visits x (state-sizes design automaton visits x is))) each
    where
      each : (k : ℕ) → k < length bits → get_or bits k false ≡ get_or (state_bits design automaton visits x) k false
      each k below =
          let here : base + k ≡ base + suc k - 1 = omega arith in
          let there : suc k - 1 ≡ k = omega arith in
          sym (same k below) ∙ ap (λ (n : ℕ). get_or values n false) here
          ∙ bits-are design automaton visits base (values_of values) x is are (suc k) (omega arith) (omega (arith, long))
          ∙ ap (λ (n : ℕ). get_or (state_bits design automaton visits x) n false) there

  module _ (sound : netlists.IsSound design) (right : automata.IsSound automaton) (tests : TestsSignals design automaton)
      (circuit : Circuit) (is : circuit ≡ circuit_of (two_states design automaton visits)) (values bits next : List Truth) where
    held-model : IsTrue (gates_hold (values_of values) 0 circuit.gates) → IsTrue (list_all (is_true (values_of values)) circuit.hold)
        → IsModel (values_of values) (whole (two_states design automaton visits) 0)
    held-model gates hold =
        let r = two_states design automaton visits in
        let v = values_of values in
        let closed = two-closed design automaton visits sound right tests in
        let gates_are = subst (λ (c : Circuit). IsTrue (gates_hold v 0 c.gates)) is gates in
        let held = subst (λ (c : Circuit). IsTrue (list_all (is_true v) c.hold)) is hold in
        append-from (meets v) (unrolled (circuit_of r) (suc 0)) (units (0 * length (circuit_of r).gates) (circuit_of r).hold)
        (path-model (circuit_of r) (suc 0) v (relation-sound r closed) (record {
          gates = λ position below. at-one (λ (u : Assignment). IsTrue (gates_hold u 0 (circuit_of r).gates)) (length (circuit_of r).gates) v gates_are position below;
          hold = λ position below. absurd (omega arith);
          moves = λ position below. absurd (omega arith);
        }))
        (units-met v (0 * length (circuit_of r).gates) (circuit_of r).hold
        ∙ at-one (λ (u : Assignment). IsTrue (list_all (is_true u) (circuit_of r).hold)) (length (circuit_of r).gates) v held 0 (omega arith))

    pub found-neighbours : IsTrue (gates_hold (values_of values) 0 circuit.gates) → IsTrue (list_all (is_true (values_of values)) circuit.hold)
        → length bits ≡ width → length next ≡ width
        → ((place : ℕ) → place < length bits → get_or values (0 + place) false ≡ get_or bits place false)
        → ((place : ℕ) → place < length next → get_or values (width + place) false ≡ get_or next place false)
        → AreBitsOfNeighbours design automaton visits bits next
    found-neighbours gates hold long also same same_next =
        let read = two-reads design automaton visits sound right tests (values_of values) (held-model gates hold) in
        record {
          state = state_in design automaton visits 0 (values_of values);
          later = state_in design automaton visits width (values_of values);
          is = read.first.is;
          is_later = read.second.is;
          neighbours = read.neighbours;
          bits_are = read-bits 0 values bits (state_in design automaton visits 0 (values_of values)) read.first.is read.first.bits long same;
          next_are = read-bits width values next (state_in design automaton visits width (values_of values)) read.second.is read.second.bits also same_next;
        }
