-- The models of the induction query stand for the open paths of the other kind.
use Rattle.std.proofs.Common.{◌≡◌, ◌⊎◌, inl, inr, refl, sym, ap, ◌∙◌, subst, ℕ, suc, ◌*◌, ◌≤◌, ◌<◌, min, ℤ, neg_ℤ, true, false, [], ◌∷◌, ◌++◌, map, get_or, Some, arith}
use Rattle.std.specs.Prelude.{IsTrue, slice_get}
use Rattle.std.specs.List.{range_with_len}
use Rattle.std.proofs.lemmas.Bool.{cases_lt, both_ways, false_from_ne_true, not-true, not_from_false, or_cases, or_left}
use Rattle.std.proofs.lemmas.Option.{slice_get-get_or}
use Rattle.alternating_theory.specs.Obligations.{Automaton}
use Rattle.clauses.specs.Literals.{variable_of}
use Rattle.clauses.specs.Models.{Assignment, IsModel, is_true, meets}
use Rattle.gates_theory.specs.Circuits.{literal_values}
use Rattle.gates_theory.specs.Distinct.{following}
use Rattle.gates_theory.specs.Unrolled.{positions_of}
use Rattle.gates_theory.proofs.Chains.{relation-sound}
use Rattle.gates_theory.proofs.Filling.{distinct-extends, distinct-models}
use Rattle.gates_theory.proofs.Literals.{true-neg}
use Rattle.netlist.specs.Design.{Design}
use Rattle.netlist.specs.Sound as netlists
use Rattle.run_terms.specs.Automata as automata
use Rattle.run_terms.specs.Automata.{TestsSignals}
use Rattle.run_terms.specs.Formulas.{whole, HasModel}
use Rattle.run_terms.proofs.Ranges.{all-below, below-all}
use Rattle.run_terms.proofs.Wholes.{bits-same, same-bits as each-same, whole-says}
use Rattle.joint_theory.specs.Bits.{bad_bit, joint_width, AreBits}
use Rattle.joint_theory.specs.Paths.{IsOpenOther}
use Rattle.joint_theory.specs.Queries.{bad_at, induction, induction_variables, joint_circuit, joint_size, path_of}
use Rattle.joint_theory.specs.Relation.{joint}
use Rattle.joint_theory.specs.States.{AreNeighbours, IsBad, IsState}
use Rattle.joint_theory.specs.declared.path.JointPath.{JointPath}
use Rattle.joint_theory.specs.declared.path.JointState.{JointState}
use Rattle.joint_theory.proofs.Closed.{IsJointWalk, joint-walk, state-at, walk-open_other}
use Rattle.joint_theory.proofs.Clauses.{first-length, first-model}
use Rattle.joint_theory.proofs.Parts.{append-from, append-parts, one-from, one-part}
use Rattle.joint_theory.proofs.PathReads.{bad-from, bad-says, not-bad, read-bits, read-walk}
use Rattle.joint_theory.proofs.PathWrites.{some-written}
use Rattle.joint_theory.proofs.QueryWithin.{front-within, induction-within, induction_front, window-fits}
use Rattle.joint_theory.proofs.SameBits.{same-bits}
use Rattle.joint_theory.proofs.StateBits.{same-state}
use Rattle.joint_theory.proofs.Within.{joint-closed}

module _ (design : Design) (automaton : Automaton) (visits : ℕ) (sound : netlists.IsSound design) (right : automata.IsSound automaton) (tests : TestsSignals design automaton) where
  abbrev width : ℕ
  width = joint_width design automaton visits

  -- equal states have equal bits, and equal bits are those of equal states
  equal-states : (v w : Assignment) (x y : JointState) → AreBits design automaton visits 0 v x → AreBits design automaton visits 0 w y → x ≡ y
      → literal_values v (following 0 width) ≡ literal_values w (following 0 width)
  equal-states v w x y bits also e =
      bits-same v w width 0 0
      (λ k below. sym (same-bits design automaton visits 0 0 v w x bits (subst (AreBits design automaton visits 0 w) (sym e) also) k below))

  equal-bits : (v w : Assignment) (x y : JointState) → AreBits design automaton visits 0 v x → AreBits design automaton visits 0 w y
      → IsState design automaton visits x → IsState design automaton visits y → literal_values v (following 0 width) ≡ literal_values w (following 0 width) → x ≡ y
  equal-bits v w x y bits also is too e =
      same-state design automaton visits 0 0 v w x y (λ k below. sym (each-same v w width 0 0 e k below)) bits also is too

  -- the path that a model stands for

  pub induction-path : (window : ℕ) (values : Assignment) → IsModel values (induction design automaton visits window)
      → IsOpenOther design automaton visits window (path_of design automaton visits window false values)
  induction-path window values model =
      let c = joint_circuit design automaton visits in
      let closed = joint-closed design automaton visits sound right tests in
      let both = distinct-models c (induction_front design automaton visits sound right tests window) (suc window * joint_size design automaton visits) window values
      (relation-sound (joint design automaton visits) closed) model in
      let a = append-parts (meets values)
      (whole (joint design automaton visits) window ++ map (λ position. neg_ℤ (bad_at design automaton visits position) ∷ []) (range_with_len 0 window))
      ((bad_at design automaton visits window ∷ []) ∷ []) both.0 in
      let b = append-parts (meets values) (whole (joint design automaton visits) window)
      (map (λ position. neg_ℤ (bad_at design automaton visits position) ∷ []) (range_with_len 0 window)) a.0 in
      let is_whole = whole-says (joint design automaton visits) window values closed b.0 in
      let at = positions_of c values in
      let good : (position : ℕ) → position < window → is_true (positions_of c values position) (bad_bit design automaton visits) ≡ false =
      λ position below. off (bad_at design automaton visits position) (omega arith)
      (all-below (meets values) (λ p. neg_ℤ (bad_at design automaton visits p) ∷ []) window b.1 position below) in
      let bits = read-bits design automaton visits sound right tests window (positions_of c values) is_whole in
      walk-open_other design automaton visits window _
      (read-walk design automaton visits sound right tests window (positions_of c values) is_whole window (omega arith) good)
      (λ i j less below same. both.1 i j less below
      (equal-states (positions_of c values i) (positions_of c values j) _ _ (bits i (omega arith)) (bits j (omega arith)) same))
      (λ i below. not-bad design automaton visits (positions_of c values i) _ (bits i (omega arith)) (good i below))
      (bad-says design automaton visits (positions_of c values window) _ (bits window (omega arith))
      (on (bad_at design automaton visits window) (one-part (meets values) (bad_at design automaton visits window ∷ []) a.1)))
    where
      on : (literal : ℤ) → IsTrue (meets values (literal ∷ [])) → is_true values literal ≡ true
      on literal h = elim (or_cases (is_true values literal) false h) [ inl t ↦ t | inr f ↦ absurd (both_ways false refl f) ]

      off : (literal : ℤ) → 0 < variable_of literal → IsTrue (meets values (neg_ℤ literal ∷ [])) → is_true values literal ≡ false
      off literal some h = not-true (is_true values literal) (sym (true-neg values literal some) ∙ on (neg_ℤ literal) h)

  -- and a model of each path

  module _ (window : ℕ) (path : JointPath) (open_path : IsOpenOther design automaton visits window path) where
    abbrev along : ℕ → JointState
    along place = get_or path.states place open_path.last.0

    abbrev held : ℕ → JointState
    held position = along (min position window)

    walk-is : IsJointWalk design automaton visits window along
    walk-is = joint-walk design automaton visits path open_path.last.0 window open_path.many open_path.joint

    last-bad : IsBad visits (along window)
    last-bad = subst (IsBad visits) (state-at design automaton visits path open_path.last.0 window open_path.last.0 open_path.last.1) open_path.last.2

    held-along : (position : ℕ) → position ≤ window → held position ≡ along position
    held-along position below = let e : min position window ≡ position = omega arith in ap (λ (n : ℕ). along n) e

    held-is : (position : ℕ) → IsState design automaton visits (held position)
    held-is position = walk-is.is (min position window) (omega arith)

    held-goes : (position : ℕ) → position ≤ window → IsBad visits (held position) ⊎ AreNeighbours design automaton visits (held position) (held (suc position))
    held-goes position below = elim (cases_lt position window) [
      | inl less ↦ inr (subst (λ (s : JointState). AreNeighbours design automaton visits s (held (suc position))) (sym (held-along position below))
          (subst (λ (s : JointState). AreNeighbours design automaton visits (along position) s) (sym (held-along (suc position) less)) (walk-is.linked position less)))
      | inr more ↦ (let e : window ≡ position = omega arith in
          inl (subst (IsBad visits) (sym (held-along position below)) (subst (λ (n : ℕ). IsBad visits (along n)) e last-bad)))
    ]

    in-path : (place : ℕ) → place ≤ window → slice_get path.states place ≡ Some (along place)
    in-path place below = slice_get-get_or path.states place open_path.last.0 (omega (arith, open_path.many))

    held-different : (i j : ℕ) → i < j → j < window → held i ≡ held j → ⊥
    held-different i j less below same = open_path.different i j less below
        (in-path i (omega arith) ∙ ap Some (sym (held-along i (omega arith)) ∙ same ∙ held-along j (omega arith)) ∙ sym (in-path j (omega arith)))

    held-good : (i : ℕ) → i < window → IsBad visits (held i) → ⊥
    held-good i below bad = open_path.not_bad i (along i) below (in-path i (omega arith)) (subst (IsBad visits) (held-along i (omega arith)) bad)

    held-model : (values : Assignment) × IsModel values (induction design automaton visits window)
    held-model =
        let c = joint_circuit design automaton visits in
        let closed = joint-closed design automaton visits sound right tests in
        let found = some-written design automaton visits sound right tests window held held-is held-goes in
        let bits = found.1.bits in
        let bad : IsTrue (is_true found.0 (bad_at design automaton visits window)) =
        bad-from design automaton visits (positions_of c found.0 window) (held window) (bits window (omega arith))
        (subst (IsBad visits) (sym (held-along window (omega arith))) last-bad) in
        let front : IsModel found.0 (induction_front design automaton visits sound right tests window) =
        append-from (meets found.0)
        (whole (joint design automaton visits) window ++ map (λ position. neg_ℤ (bad_at design automaton visits position) ∷ []) (range_with_len 0 window))
        ((bad_at design automaton visits window ∷ []) ∷ [])
        (append-from (meets found.0) (whole (joint design automaton visits) window)
        (map (λ position. neg_ℤ (bad_at design automaton visits position) ∷ []) (range_with_len 0 window)) found.1.met
        (below-all (meets found.0) (λ position. neg_ℤ (bad_at design automaton visits position) ∷ []) window
        (λ position below. or_left (is_true found.0 (neg_ℤ (bad_at design automaton visits position))) false
        (true-neg found.0 (bad_at design automaton visits position) (omega arith)
        ∙ not_from_false (is_true found.0 (bad_at design automaton visits position)) (good-at found.0 position (bits position (omega arith)) below)))))
        (one-from (meets found.0) (bad_at design automaton visits window ∷ []) (or_left (is_true found.0 (bad_at design automaton visits window)) false bad)) in
        let all = distinct-extends c (induction_front design automaton visits sound right tests window) (suc window * joint_size design automaton visits) window found.0
        (relation-sound (joint design automaton visits) closed) (window-fits design automaton visits sound right tests window)
        (front-within design automaton visits sound right tests window) front
        (λ i j less below same. held-different i j less below
        (equal-bits (positions_of c found.0 i) (positions_of c found.0 j) (held i) (held j) (bits i (omega arith)) (bits j (omega arith)) (held-is i) (held-is j) same)) in
        (all.0, all.1)
      where
        good-at : (values : Assignment) (position : ℕ) → AreBits design automaton visits 0 (positions_of (joint_circuit design automaton visits) values position) (held position)
            → position < window → is_true values (bad_at design automaton visits position) ≡ false
        good-at values position bits below =
            false_from_ne_true (is_true values (bad_at design automaton visits position))
            (λ on. held-good position below (bad-says design automaton visits (positions_of (joint_circuit design automaton visits) values position) (held position) bits on))

  pub path-induction : (window : ℕ) (path : JointPath) → IsOpenOther design automaton visits window path
      → HasModel (induction_variables design automaton visits window) (induction design automaton visits window)
  path-induction window path open_path none =
      let found = held-model window path open_path in
      none (map found.0 (range_with_len 1 (induction_variables design automaton visits window))) (first-length (induction_variables design automaton visits window) found.0)
      (first-model (induction_variables design automaton visits window) (induction design automaton visits window) found.0
      (induction-within design automaton visits sound right tests window) found.1)
