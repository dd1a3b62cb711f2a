-- The states at the positions of a model.
use Rattle.std.proofs.Common.{◌≡◌, ◌⊎◌, inl, inr, sym, ap, ◌∙◌, ℕ, zero, suc, ◌+◌, ◌≤◌, ◌<◌, neg_ℤ, true, false, List, arith}
use Rattle.std.specs.Prelude.{IsTrue, if◌then◌else◌}
use Rattle.std.specs.List.{list_all}
use Rattle.std.proofs.lemmas.Bool.{cases_Bool, cases_eq, cases_lt, both_ways, lt-ltb, ltb-true, not_from_false}
use Rattle.alternating_theory.specs.Obligations.{Automaton}
use Rattle.clauses.specs.Models.{Assignment, is_true}
use Rattle.gates_theory.specs.Terms.{Term, value}
use Rattle.gates_theory.proofs.Literals.{true-neg}
use Rattle.netlist.specs.Design.{Design}
use Rattle.netlist.specs.Sound as netlists
use Rattle.run_terms.specs.Automata as automata
use Rattle.run_terms.specs.Automata.{TestsSignals}
use Rattle.run_terms.specs.Tables.{guarded}
use Rattle.run_terms.proofs.Logic.{guarded-says}
use Rattle.run_terms.proofs.Wholes.{IsWhole}
use Rattle.joint_theory.specs.Bits.{bad_bit, joint_width, state_in, AreBits}
use Rattle.joint_theory.specs.Queries.{bad_at, first_bad}
use Rattle.joint_theory.specs.Relation.{joint, state_terms, step_terms, unless_bad}
use Rattle.joint_theory.specs.States.{AreNeighbours, IsBad, IsState}
use Rattle.joint_theory.specs.declared.path.JointState.{JointState}
use Rattle.joint_theory.proofs.Closed.{IsJointWalk}
use Rattle.joint_theory.proofs.Parts.{all-weaker, append-parts, map-parts}
use Rattle.joint_theory.proofs.StateBits.{moved-bits}
use Rattle.joint_theory.proofs.StateSays.{state-read}
use Rattle.joint_theory.proofs.Steps.{neighbours-say}

-- whether a state is bad, by its bits
pub bad-says : (design : Design) (automaton : Automaton) (visits : ℕ) (v : Assignment) (x : JointState) → AreBits design automaton visits 0 v x
    → is_true v (bad_bit design automaton visits) ≡ true → IsBad visits x
bad-says design automaton visits v x bits h = ltb-true visits x.count (sym (bits.count visits (omega arith)) ∙ h)

pub bad-from : (design : Design) (automaton : Automaton) (visits : ℕ) (v : Assignment) (x : JointState) → AreBits design automaton visits 0 v x
    → IsBad visits x → is_true v (bad_bit design automaton visits) ≡ true
bad-from design automaton visits v x bits h = bits.count visits (omega arith) ∙ lt-ltb visits x.count h

pub not-bad : (design : Design) (automaton : Automaton) (visits : ℕ) (v : Assignment) (x : JointState) → AreBits design automaton visits 0 v x
    → is_true v (bad_bit design automaton visits) ≡ false → IsBad visits x → ⊥
not-bad design automaton visits v x bits h bad = both_ways (is_true v (bad_bit design automaton visits)) h (bad-from design automaton visits v x bits bad)

module _ (design : Design) (automaton : Automaton) (visits : ℕ) (sound : netlists.IsSound design) (right : automata.IsSound automaton) (tests : TestsSignals design automaton)
    (last : ℕ) (values : ℕ → Assignment) (whole : IsWhole (joint design automaton visits) last values) where
  -- the state at a position
  abbrev pub read_state : ℕ → JointState
  read_state position = state_in design automaton visits 0 (values position)

  abbrev width : ℕ
  width = joint_width design automaton visits

  abbrev steps : List Term
  steps = step_terms design automaton visits (joint_width design automaton visits)

  related-parts : (position : ℕ) → position ≤ last
      → IsTrue (list_all (value (values position)) (state_terms design automaton visits 0)) × IsTrue (list_all (value (values position)) (unless_bad design automaton visits steps))
  related-parts position below =
      append-parts (value (values position)) (state_terms design automaton visits 0) (unless_bad design automaton visits steps) (whole.related position below)

  pub read-is : (position : ℕ) → position ≤ last → IsState design automaton visits (read_state position)
  read-is position below = (state-read design automaton visits sound 0 (values position) (related-parts position below).0).0

  pub read-bits : (position : ℕ) → position ≤ last → AreBits design automaton visits 0 (values position) (read_state position)
  read-bits position below = (state-read design automaton visits sound 0 (values position) (related-parts position below).0).1

  next-bits : (position : ℕ) → position < last → AreBits design automaton visits width (values position) (read_state (suc position))
  next-bits position below =
      moved-bits design automaton visits 0 width (values (suc position)) (values position) (read_state (suc position))
      (λ k low. sym (whole.moves position k below low) ∙ ap (λ (n : ℕ). values (suc position) (suc n)) (omega arith)) (read-bits (suc position) (omega arith))

  pub read-linked : (position : ℕ) → position < last → is_true (values position) (bad_bit design automaton visits) ≡ false
      → AreNeighbours design automaton visits (read_state position) (read_state (suc position))
  read-linked position below good =
      let v = values position in
      let bad = bad_bit design automaton visits in
      let on : is_true (values position) (neg_ℤ (bad_bit design automaton visits)) ≡ true =
      true-neg (values position) (bad_bit design automaton visits) (omega arith) ∙ not_from_false (is_true (values position) (bad_bit design automaton visits)) good in
      neighbours-say design automaton visits sound right tests (joint_width design automaton visits) (values position) (read_state position) (read_state (suc position))
      (read-is position (omega arith)) (read-is (suc position) (omega arith)) (read-bits position (omega arith)) (next-bits position below)
      (all-weaker (λ term. value (values position) (guarded (neg_ℤ (bad_bit design automaton visits)) term)) (value (values position))
      (λ term h. guarded-says (values position) (neg_ℤ (bad_bit design automaton visits)) term h on) steps
      (sym (map-parts (value (values position)) (guarded (neg_ℤ (bad_bit design automaton visits))) steps) ∙ (related-parts position (omega arith)).1))

  -- a walk up to a position before which no state is bad
  pub read-walk : (count : ℕ) → count ≤ last → ((position : ℕ) → position < count → is_true (values position) (bad_bit design automaton visits) ≡ false)
      → IsJointWalk design automaton visits count read_state
  read-walk count below good = record {
    is = λ position few. read-is position (omega arith);
    linked = λ position few. read-linked position (omega arith) (good position few);
  }

-- the first position at which the state is bad
module _ (design : Design) (automaton : Automaton) (visits : ℕ) (values : Assignment) where
  pub record IsFirst (count position first : ℕ) : Type 0 where
    pub from : position ≤ first
    pub below : first < position + count
    pub bad : is_true values (bad_at design automaton visits first) ≡ true
    pub good : (earlier : ℕ) → position ≤ earlier → earlier < first → is_true values (bad_at design automaton visits earlier) ≡ false

  pub first-is : (count position later : ℕ) → position ≤ later → later < position + count → is_true values (bad_at design automaton visits later) ≡ true
      → IsFirst count position (first_bad design automaton visits count values position)
  first-is zero position later low high h = absurd (omega arith)
  first-is (suc count) position later low high h = by (cases_Bool (is_true values (bad_at design automaton visits position)))
      (λ off. first-is count (suc position) later (by_off off) (omega arith) h)
    where
      by_off : is_true values (bad_at design automaton visits position) ≡ false → suc position ≤ later
      by_off off = elim (cases_lt position later) [
        | inl less ↦ less
        | inr more ↦ (let e : later ≡ position = omega arith in absurd (both_ways (is_true values (bad_at design automaton visits later))
            (ap (λ (n : ℕ). is_true values (bad_at design automaton visits n)) e ∙ off) h))
      ]

      goal : ℕ
      goal = first_bad design automaton visits count values (suc position)

      by : (is_true values (bad_at design automaton visits position) ≡ true) ⊎ (is_true values (bad_at design automaton visits position) ≡ false)
          → (is_true values (bad_at design automaton visits position) ≡ false → IsFirst count (suc position) (first_bad design automaton visits count values (suc position)))
          → IsFirst (suc count) position (if is_true values (bad_at design automaton visits position) then position else first_bad design automaton visits count values (suc position))
      by (inl on) rest = rw on (record { from = omega arith; below = omega arith; bad = on; good = λ earlier from less. absurd (omega arith) })
      by (inr off) rest =
          let r = rest off in
          rw off (record {
            from = omega (arith, r.from);
            below = omega (arith, r.below);
            bad = r.bad;
            good = λ earlier from less. good-at earlier (cases_eq position earlier) from less r;
          })
        where
          good-at : (earlier : ℕ) → (position ≡ earlier) ⊎ (position ≡ earlier → ⊥) → position ≤ earlier
              → earlier < first_bad design automaton visits count values (suc position) → IsFirst count (suc position) (first_bad design automaton visits count values (suc position))
              → is_true values (bad_at design automaton visits earlier) ≡ false
          good-at earlier (inl e) from less r = ap (λ (n : ℕ). is_true values (bad_at design automaton visits n)) (sym e) ∙ off
          good-at earlier (inr n) from less r = r.good earlier (omega (arith, n)) less
