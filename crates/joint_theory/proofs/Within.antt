-- The terms of the relation have literals of its variables alone, and so have those of an initial state.
use Rattle.std.proofs.Common.{◌≡◌, refl, ◌∙◌, ℕ, zero, suc, ◌+◌, ◌≤◌, ◌<◌, ℤ, neg_ℤ, Bool as Truth, true, false, ◌&&◌, [], ◌∷◌, ◌++◌, map, arith}
use Rattle.std.specs.Prelude.{IsTrue}
use Rattle.std.specs.List.{list_all, range_with_len}
use Rattle.std.proofs.lemmas.Bool.{and_from}
use Rattle.alternating_theory.specs.Obligations.{Automaton}
use Rattle.clauses.specs.Literals.{clause_within, is_within}
use Rattle.gates_theory.specs.Relations.{variables_of, IsClosed}
use Rattle.gates_theory.specs.Terms.{Term, term_within}
use Rattle.gates_theory.specs.Terms.Term.{Literal, Negation}
use Rattle.gates_theory.proofs.Within.{negated_within}
use Rattle.netlist.specs.Design.{Design}
use Rattle.netlist.specs.Sound as netlists
use Rattle.psl_tree.specs.Names.{AtomInRange}
use Rattle.run_terms.specs.Automata as automata
use Rattle.run_terms.specs.Automata.{TestsSignals}
use Rattle.run_terms.specs.Combinations.{positive_term}
use Rattle.run_terms.specs.Moves.{first_literals, move_terms}
use Rattle.run_terms.specs.Positions.{earlier, had, position_width}
use Rattle.run_terms.specs.Tables.{all_of, before_terms, guarded, valuation_terms}
use Rattle.run_terms.proofs.Logic.{pos_within}
use Rattle.run_terms.proofs.Netlists.{before-terms_within, first-literals_within, move-terms_within, valuation-terms_within}
use Rattle.run_terms.proofs.Positions.{earlier-within, had-within}
use Rattle.run_terms.proofs.PositiveValues.{positive-within}
use Rattle.run_terms.proofs.Ranges.{below-all}
use Rattle.run_terms.proofs.TableSizes.{all_of-within}
use Rattle.joint_theory.specs.Bits.{bad_bit, count_bit, count_of, joint_width, numbers_of, owed_bit, pending_bit}
use Rattle.joint_theory.specs.Queries.{start_literals, with_sign}
use Rattle.joint_theory.specs.Relation.{anew_term, askers, breakpoint_terms, count_term, earlier_terms, emptied_bit, emptied_term, joint, met_terms, owed_term, pending_still, pending_term, put_off_literal, put_off_term, state_terms, step_terms, support_terms, unary_terms, unasked_owed, unasked_pending, unless_bad}
use Rattle.joint_theory.specs.States.{delta_of, is_accepting, is_listed, not_accepting}
use Rattle.joint_theory.proofs.Asked.{askers-all, unasked-within}
use Rattle.joint_theory.proofs.Parts.{all-weaker, append-from, map-parts, one-from}
use Rattle.joint_theory.proofs.Steps.{atoms-at}

guarded-within : (n : ℕ) (guard : ℤ) (term : Term) → IsTrue (is_within n guard) → IsTrue (term_within n term) → IsTrue (term_within n (guarded guard term))
guarded-within n guard term a b = and_from (is_within n guard) (term_within n term) a b

sign-within : (n : ℕ) (sign : Truth) (literal : ℤ) → IsTrue (is_within n literal) → IsTrue (is_within n (with_sign sign literal))
sign-within n true literal within = within
sign-within n false literal within = negated_within n literal within

module _ (design : Design) (automaton : Automaton) (visits : ℕ) (sound : netlists.IsSound design) (right : automata.IsSound automaton) (tests : TestsSignals design automaton) where
  abbrev many : ℕ
  many = count_of automaton

  abbrev width : ℕ
  width = joint_width design automaton visits

  -- the bits from a base on

  module _ (n base : ℕ) (fits : base + joint_width design automaton visits ≤ n) where
    owed-within : (number : ℕ) → number < many → IsTrue (is_within n (owed_bit design base number))
    owed-within number below = pos_within n (suc (base + position_width design.signals + number)) (omega arith) (omega arith)

    pending-within : (number : ℕ) → number < many → IsTrue (is_within n (pending_bit design automaton base number))
    pending-within number below = pos_within n (suc (base + position_width design.signals + many + number)) (omega arith) (omega arith)

    count-within : (number : ℕ) → number < suc visits → IsTrue (is_within n (count_bit design automaton base number))
    count-within number below = pos_within n (suc (base + position_width design.signals + many + many + number)) (omega arith) (omega arith)

    -- the terms of a state

    pending-term_within : (number : ℕ) → number < many → IsTrue (term_within n (pending_term design automaton base number))
    pending-term_within number below = by (is_accepting automaton number) refl
      where
        by : (b : Truth) → is_accepting automaton number ≡ b → IsTrue (term_within n (pending_term design automaton base number))
        by true e = rw e (pending-within number below)
        by false e =
            rw e (guarded-within n (pending_bit design automaton base number) (Literal (owed_bit design base number)) (pending-within number below) (owed-within number below))

    pub state-within : IsTrue (list_all (term_within n) (state_terms design automaton visits base))
    state-within =
        append-from (term_within n) (valuation_terms design.signals base design.tables ++ before_terms base design.tables ++ earlier_terms design base ++ map (pending_term design automaton base) (numbers_of automaton))
        (unary_terms design automaton visits base)
        (append-from (term_within n) (valuation_terms design.signals base design.tables ++ before_terms base design.tables ++ earlier_terms design base)
        (map (pending_term design automaton base) (numbers_of automaton))
        (append-from (term_within n) (valuation_terms design.signals base design.tables ++ before_terms base design.tables) (earlier_terms design base)
        (append-from (term_within n) (valuation_terms design.signals base design.tables) (before_terms base design.tables)
        (valuation-terms_within design base n sound (omega arith)) (before-terms_within design base n sound (omega arith)))
        (below-all (term_within n) (λ signal. guarded (earlier base signal) (Literal (had base))) design.signals
        (λ signal below. guarded-within n (earlier base signal) (Literal (had base)) (earlier-within design.signals base n signal (omega arith) below) (had-within design.signals base n (omega arith)))))
        (below-all (term_within n) (pending_term design automaton base) many pending-term_within))
        (below-all (term_within n) (λ number. guarded (count_bit design automaton base (suc number)) (Literal (count_bit design automaton base number))) visits
        (λ number below. guarded-within n (count_bit design automaton base (suc number)) (Literal (count_bit design automaton base number))
        (count-within (suc number) (omega arith)) (count-within number (omega arith))))

  -- the literals of an initial state

  module _ (n : ℕ) (fits : 0 + joint_width design automaton visits ≤ n) where
    pub start-within : IsTrue (clause_within n (start_literals design automaton visits))
    start-within =
        append-from (is_within n) (first_literals design.signals 0 design.latches
        ++ map (λ number. with_sign (is_listed (automaton.start ∷ []) number) (owed_bit design 0 number)) (numbers_of automaton)
        ++ map (λ number. with_sign (is_listed (not_accepting automaton (automaton.start ∷ [])) number) (pending_bit design automaton 0 number)) (numbers_of automaton))
        (map (λ number. neg_ℤ (count_bit design automaton 0 number)) (range_with_len 0 (suc visits)))
        (append-from (is_within n) (first_literals design.signals 0 design.latches
        ++ map (λ number. with_sign (is_listed (automaton.start ∷ []) number) (owed_bit design 0 number)) (numbers_of automaton))
        (map (λ number. with_sign (is_listed (not_accepting automaton (automaton.start ∷ [])) number) (pending_bit design automaton 0 number)) (numbers_of automaton))
        (append-from (is_within n) (first_literals design.signals 0 design.latches)
        (map (λ number. with_sign (is_listed (automaton.start ∷ []) number) (owed_bit design 0 number)) (numbers_of automaton))
        (first-literals_within design 0 n sound (omega arith))
        (below-all (is_within n) (λ number. with_sign (is_listed (automaton.start ∷ []) number) (owed_bit design 0 number)) many
        (λ number below. sign-within n (is_listed (automaton.start ∷ []) number) (owed_bit design 0 number) (owed-within n 0 fits number below))))
        (below-all (is_within n) (λ number. with_sign (is_listed (not_accepting automaton (automaton.start ∷ [])) number) (pending_bit design automaton 0 number)) many
        (λ number below. sign-within n (is_listed (not_accepting automaton (automaton.start ∷ [])) number) (pending_bit design automaton 0 number) (pending-within n 0 fits number below))))
        (below-all (is_within n) (λ number. neg_ℤ (count_bit design automaton 0 number)) (suc visits)
        (λ number below. negated_within n (count_bit design automaton 0 number) (count-within n 0 fits number below)))

  -- the terms of a step

  module _ (n : ℕ) (fits : width + width < n) where
    step-fits : 0 + joint_width design automaton visits ≤ n
    step-fits = omega arith

    next-fits : joint_width design automaton visits + joint_width design automaton visits ≤ n
    next-fits = omega arith

    emptied-within : IsTrue (is_within n (emptied_bit width))
    emptied-within = pos_within n (suc (width + width)) (omega arith) (omega arith)

    owed-term_within : (number : ℕ) → number < many → IsTrue (term_within n (owed_term design automaton width number))
    owed-term_within number below =
        guarded-within n (owed_bit design 0 number) (positive_term design.signals 0 (λ other. Literal (owed_bit design width other)) (delta_of automaton number))
        (owed-within n 0 step-fits number below)
        (positive-within design.signals 0 n many design.names (λ other. Literal (owed_bit design width other)) (delta_of automaton number) sound.names
        (atoms-at (AtomInRange design.names) automaton.obligations number tests) (right.owed number below) (omega arith) (λ other low. owed-within n width next-fits other low))

    put_off-within : (other : ℕ) → other < many → IsTrue (is_within n (put_off_literal design automaton width other))
    put_off-within other below = by (is_accepting automaton other) refl
      where
        by : (b : Truth) → is_accepting automaton other ≡ b → IsTrue (is_within n (put_off_literal design automaton width other))
        by true e = rw e (owed-within n width next-fits other below)
        by false e = rw e (pending-within n width next-fits other below)

    put_off-term_within : (number : ℕ) → number < many → IsTrue (term_within n (put_off_term design automaton width number))
    put_off-term_within number below =
        guarded-within n (pending_bit design automaton 0 number) (positive_term design.signals 0 (λ other. Literal (put_off_literal design automaton width other)) (delta_of automaton number))
        (pending-within n 0 step-fits number below)
        (positive-within design.signals 0 n many design.names (λ other. Literal (put_off_literal design automaton width other)) (delta_of automaton number) sound.names
        (atoms-at (AtomInRange design.names) automaton.obligations number tests) (right.owed number below) (omega arith) put_off-within)

    emptied-term_within : IsTrue (term_within n (emptied_term design automaton width))
    emptied-term_within =
        and_from (is_within n (emptied_bit width)) (term_within n (all_of (map (λ number. neg_ℤ (pending_bit design automaton 0 number)) (numbers_of automaton)))) emptied-within
        (all_of-within n (map (λ number. neg_ℤ (pending_bit design automaton 0 number)) (numbers_of automaton)) (omega arith)
        (below-all (is_within n) (λ number. neg_ℤ (pending_bit design automaton 0 number)) many
        (λ number below. negated_within n (pending_bit design automaton 0 number) (pending-within n 0 step-fits number below))))

    anew-term_within : (number : ℕ) → number < many → IsTrue (term_within n (anew_term design automaton width number))
    anew-term_within number below =
        guarded-within n (emptied_bit width) (guarded (owed_bit design width number) (Literal (put_off_literal design automaton width number))) emptied-within
        (guarded-within n (owed_bit design width number) (Literal (put_off_literal design automaton width number)) (owed-within n width next-fits number below) (put_off-within number below))

    count-term_within : (number : ℕ) → number < suc visits → IsTrue (term_within n (count_term design automaton width number))
    count-term_within zero below =
        and_from (is_within n (count_bit design automaton width 0)) (is_within n (count_bit design automaton 0 0) && is_within n (emptied_bit width))
        (count-within n width next-fits 0 below)
        (and_from (is_within n (count_bit design automaton 0 0)) (is_within n (emptied_bit width)) (count-within n 0 step-fits 0 below) emptied-within)
    count-term_within (suc number) below =
        and_from (is_within n (count_bit design automaton width (suc number)))
        (is_within n (count_bit design automaton 0 (suc number)) && (is_within n (emptied_bit width) && is_within n (count_bit design automaton 0 number)))
        (count-within n width next-fits (suc number) below)
        (and_from (is_within n (count_bit design automaton 0 (suc number))) (is_within n (emptied_bit width) && is_within n (count_bit design automaton 0 number))
        (count-within n 0 step-fits (suc number) below)
        (and_from (is_within n (emptied_bit width)) (is_within n (count_bit design automaton 0 number)) emptied-within (count-within n 0 step-fits number (omega arith))))

    met-within : IsTrue (list_all (term_within n) (met_terms design automaton width))
    met-within =
        append-from (term_within n) (move_terms design.signals 0 width design.latches ++ map (owed_term design automaton width) (numbers_of automaton))
        (map (put_off_term design automaton width) (numbers_of automaton))
        (append-from (term_within n) (move_terms design.signals 0 width design.latches) (map (owed_term design automaton width) (numbers_of automaton))
        (move-terms_within design 0 width n sound (omega arith) (omega arith)) (below-all (term_within n) (owed_term design automaton width) many owed-term_within))
        (below-all (term_within n) (put_off_term design automaton width) many put_off-term_within)

    breakpoint-within : IsTrue (list_all (term_within n) (breakpoint_terms design automaton visits width))
    breakpoint-within =
        append-from (term_within n) ((emptied_term design automaton width ∷ []) ++ map (anew_term design automaton width) (numbers_of automaton))
        (map (count_term design automaton width) (range_with_len 0 (suc visits)))
        (append-from (term_within n) (emptied_term design automaton width ∷ []) (map (anew_term design automaton width) (numbers_of automaton))
        (one-from (term_within n) (emptied_term design automaton width) emptied-term_within)
        (below-all (term_within n) (anew_term design automaton width) many anew-term_within))
        (below-all (term_within n) (count_term design automaton width) (suc visits) count-term_within)

    owed_asked-within : (number : ℕ) → number < many → IsTrue (term_within n (Negation (unasked_owed design automaton width number)))
    owed_asked-within number below =
        unasked-within design automaton n sound.names tests (omega arith) (owed_bit design 0) number (Literal (owed_bit design width number)) (askers automaton number)
        (askers-all automaton (λ other. IsTrue (is_within n (owed_bit design 0 other))) number (λ other low. owed-within n 0 step-fits other low))
        (owed-within n width next-fits number below)

    pending_asked-within : (number : ℕ) → number < many → IsTrue (term_within n (Negation (unasked_pending design automaton width number)))
    pending_asked-within number below =
        unasked-within design automaton n sound.names tests (omega arith) (pending_bit design automaton 0) number (pending_still design automaton width number) (askers automaton number)
        (askers-all automaton (λ other. IsTrue (is_within n (pending_bit design automaton 0 other))) number (λ other low. pending-within n 0 step-fits other low))
        (and_from (is_within n (pending_bit design automaton width number)) (is_within n (neg_ℤ (emptied_bit width)))
        (pending-within n width next-fits number below) (negated_within n (emptied_bit width) emptied-within))

    support-within : IsTrue (list_all (term_within n) (support_terms design automaton width))
    support-within =
        append-from (term_within n) (map (λ number. Negation (unasked_owed design automaton width number)) (numbers_of automaton))
        (map (λ number. Negation (unasked_pending design automaton width number)) (numbers_of automaton))
        (below-all (term_within n) (λ number. Negation (unasked_owed design automaton width number)) many owed_asked-within)
        (below-all (term_within n) (λ number. Negation (unasked_pending design automaton width number)) many pending_asked-within)

    pub step-within : IsTrue (list_all (term_within n) (step_terms design automaton visits width))
    step-within =
        append-from (term_within n) (met_terms design automaton width ++ breakpoint_terms design automaton visits width) (support_terms design automaton width)
        (append-from (term_within n) (met_terms design automaton width) (breakpoint_terms design automaton visits width) met-within breakpoint-within) support-within

    bad-within : IsTrue (is_within n (neg_ℤ (bad_bit design automaton visits)))
    bad-within = negated_within n (bad_bit design automaton visits) (count-within n 0 step-fits visits (omega arith))

    pub unless-within : IsTrue (list_all (term_within n) (unless_bad design automaton visits (step_terms design automaton visits width)))
    unless-within =
        map-parts (term_within n) (guarded (neg_ℤ (bad_bit design automaton visits))) (step_terms design automaton visits width)
        ∙ all-weaker (term_within n) (λ term. term_within n (guarded (neg_ℤ (bad_bit design automaton visits)) term))
        (λ term within. guarded-within n (neg_ℤ (bad_bit design automaton visits)) term bad-within within) (step_terms design automaton visits width) step-within

  pub joint-closed : IsClosed (joint design automaton visits)
  joint-closed =
      let n = variables_of (joint design automaton visits) in
      append-from (term_within (variables_of (joint design automaton visits))) (state_terms design automaton visits 0)
      (unless_bad design automaton visits (step_terms design automaton visits (joint_width design automaton visits)))
      (state-within n 0 (omega arith)) (unless-within n (omega arith))
