-- The literals of both queries are of their variables.
use Rattle.std.proofs.Common.{◌≡◌, refl, ℕ, zero, suc, ◌+◌, ◌*◌, ◌≤◌, ◌<◌, ℤ, neg_ℤ, true, List, [], ◌∷◌, ◌++◌, map, length, arith, mul-le-mul_right}
use Rattle.std.specs.Prelude.{IsTrue}
use Rattle.std.specs.List.{range_with_len}
use Rattle.std.proofs.lemmas.Bool.{and_from}
use Rattle.alternating_theory.specs.Obligations.{Automaton}
use Rattle.clauses.specs.Literals.{clause_within, clauses_within, is_within}
use Rattle.gates_theory.specs.Distinct.{distinct}
use Rattle.gates_theory.specs.Unrolled.{units}
use Rattle.gates_theory.proofs.Chains.{relation-sound}
use Rattle.gates_theory.proofs.Within.{both_within, distinct-all_within, moved_within, negated_within, wider_all}
use Rattle.netlist.specs.Design.{Design}
use Rattle.netlist.specs.Sound as netlists
use Rattle.run_terms.specs.Automata as automata
use Rattle.run_terms.specs.Automata.{TestsSignals}
use Rattle.run_terms.specs.Formulas.{whole}
use Rattle.run_terms.proofs.FormulaSizes.{gates-length}
use Rattle.run_terms.proofs.Logic.{pos_within}
use Rattle.run_terms.proofs.Ranges.{below-all}
use Rattle.joint_theory.specs.Bits.{bad_bit, joint_width}
use Rattle.joint_theory.specs.Queries.{bad_at, base, base_variables, induction, induction_variables, joint_circuit, joint_size, start_literals}
use Rattle.joint_theory.specs.Relation.{joint}
use Rattle.joint_theory.proofs.Clauses.{units-within, whole-within}
use Rattle.joint_theory.proofs.Within.{joint-closed, start-within}

module _ (design : Design) (automaton : Automaton) (visits : ℕ) (sound : netlists.IsSound design) (right : automata.IsSound automaton) (tests : TestsSignals design automaton) where
  abbrev size : ℕ
  size = joint_size design automaton visits

  pub width-fits : 0 + joint_width design automaton visits ≤ joint_size design automaton visits
  width-fits = omega (arith, gates-length (joint design automaton visits) (joint-closed design automaton visits sound right tests))

  suc-mul' : (i g : ℕ) → suc i * g ≡ i * g + g
  suc-mul' i g = grind arith

  bad-within : (n position count : ℕ) → position < count → count * joint_size design automaton visits ≤ n → IsTrue (is_within n (bad_at design automaton visits position))
  bad-within n position count below fits =
      let few : suc position ≤ count = omega arith in
      moved_within (joint_size design automaton visits) (position * joint_size design automaton visits) n (bad_bit design automaton visits)
      (pos_within (joint_size design automaton visits) _ (omega arith) (omega (arith, width-fits)))
      (omega (arith, mul-le-mul_right (joint_size design automaton visits) few, suc-mul' position (joint_size design automaton visits)))

  start-units : (n : ℕ) → joint_size design automaton visits ≤ n → IsTrue (clauses_within n (units 0 (start_literals design automaton visits)))
  start-units n fits =
      units-within n (joint_size design automaton visits) 0 (start_literals design automaton visits)
      (start-within design automaton visits sound right tests (joint_size design automaton visits) width-fits) (omega arith)

  bads-within : (n count : ℕ) → count * joint_size design automaton visits ≤ n
      → IsTrue (clause_within n (map (bad_at design automaton visits) (range_with_len 0 count)))
  bads-within n count fits = below-all (is_within n) (bad_at design automaton visits) count (λ position below. bad-within n position count below fits)

  pub base-within : (window : ℕ) → IsTrue (clauses_within (base_variables design automaton visits window) (base design automaton visits window))
  base-within zero = refl
  base-within (suc last) =
      let n = suc last * joint_size design automaton visits in
      let bads = map (bad_at design automaton visits) (range_with_len 0 (suc last)) in
      both_within (suc last * joint_size design automaton visits) (whole (joint design automaton visits) last ++ units 0 (start_literals design automaton visits))
      (map (bad_at design automaton visits) (range_with_len 0 (suc last)) ∷ [])
      (both_within (suc last * joint_size design automaton visits) (whole (joint design automaton visits) last) (units 0 (start_literals design automaton visits))
      (whole-within (joint design automaton visits) last (joint-closed design automaton visits sound right tests))
      (start-units (suc last * joint_size design automaton visits) (omega (arith, suc-mul' last (joint_size design automaton visits)))))
      (and_from (clause_within (suc last * joint_size design automaton visits) (map (bad_at design automaton visits) (range_with_len 0 (suc last)))) true
      (bads-within (suc last * joint_size design automaton visits) (suc last) (omega arith)) refl)

  -- the clauses before those that the states are different
  abbrev pub induction_front : ℕ → List (List ℤ)
  induction_front window =
      whole (joint design automaton visits) window
      ++ map (λ position. neg_ℤ (bad_at design automaton visits position) ∷ []) (range_with_len 0 window)
      ++ ((bad_at design automaton visits window ∷ []) ∷ [])

  pub front-within : (window : ℕ) → IsTrue (clauses_within (suc window * joint_size design automaton visits) (induction_front window))
  front-within window =
      let n = suc window * joint_size design automaton visits in
      both_within (suc window * joint_size design automaton visits)
      (whole (joint design automaton visits) window ++ map (λ position. neg_ℤ (bad_at design automaton visits position) ∷ []) (range_with_len 0 window))
      ((bad_at design automaton visits window ∷ []) ∷ [])
      (both_within (suc window * joint_size design automaton visits) (whole (joint design automaton visits) window)
      (map (λ position. neg_ℤ (bad_at design automaton visits position) ∷ []) (range_with_len 0 window))
      (whole-within (joint design automaton visits) window (joint-closed design automaton visits sound right tests))
      (below-all (clause_within (suc window * joint_size design automaton visits)) (λ position. neg_ℤ (bad_at design automaton visits position) ∷ []) window
      (λ position below. one (suc window * joint_size design automaton visits) (neg_ℤ (bad_at design automaton visits position))
      (negated_within (suc window * joint_size design automaton visits) (bad_at design automaton visits position)
      (bad-within (suc window * joint_size design automaton visits) position (suc window) (omega arith) (omega arith))))))
      (and_from (clause_within (suc window * joint_size design automaton visits) (bad_at design automaton visits window ∷ [])) true
      (one (suc window * joint_size design automaton visits) (bad_at design automaton visits window)
      (bad-within (suc window * joint_size design automaton visits) window (suc window) (omega arith) (omega arith))) refl)
    where
      one : (n : ℕ) (literal : ℤ) → IsTrue (is_within n literal) → IsTrue (clause_within n (literal ∷ []))
      one n literal h = and_from (is_within n literal) true h refl

  pub window-fits : (window : ℕ) → window * length (joint_circuit design automaton visits).gates ≤ suc window * joint_size design automaton visits
  window-fits window = omega (arith, suc-mul' window (joint_size design automaton visits))

  pub induction-within : (window : ℕ) → IsTrue (clauses_within (induction_variables design automaton visits window) (induction design automaton visits window))
  induction-within window =
      both_within (induction_variables design automaton visits window) (induction_front window)
      (distinct (joint_circuit design automaton visits) (suc window * joint_size design automaton visits) window)
      (wider_all (suc window * joint_size design automaton visits) (induction_variables design automaton visits window) (omega arith) (induction_front window) (front-within window))
      (distinct-all_within (joint_circuit design automaton visits) (suc window * joint_size design automaton visits) window
      (relation-sound (joint design automaton visits) (joint-closed design automaton visits sound right tests)) (window-fits window))
