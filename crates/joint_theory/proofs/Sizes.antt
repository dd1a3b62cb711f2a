-- How many words and variables both queries have at most.
use Rattle.std.proofs.Common.{◌≡◌, ℕ, zero, suc, ◌+◌, ◌*◌, ◌<◌, ◌≤◌, ℤ, neg_ℤ, Bool as Truth, true, false, List, [], ◌∷◌, ◌++◌, map, length, refl, sym, subst, arith, length-append, suc-mul}
use Rattle.std.specs.List.{range_with_len}
use Rattle.std.proofs.lemmas.List.{length-map}
use Rattle.std.proofs.lemmas.List.FromFn.{length-map-range_with_len, length-range_with_len}
use Rattle.std.proofs.lemmas.List.Sums.{sum_by-append, sum_by-cons}
use Rattle.std.proofs.Math.Nat.{mul-le-mul_left}
use Rattle.alternating_theory.specs.Obligations.{Automaton, obligation_at}
use Rattle.clauses.specs.Literals.{clause_words}
use Rattle.gates_theory.specs.Distinct.{distinct, pairs}
use Rattle.gates_theory.specs.Relations.{Relation}
use Rattle.gates_theory.specs.Terms.{Term, term_size}
use Rattle.gates_theory.specs.Terms.Term.{Literal, Negation}
use Rattle.gates_theory.specs.Unrolled.{units}
use Rattle.gates_theory.proofs.Sizes.{distinct-words, length-following, words-append, words-cons}
use Rattle.netlist.specs.Design.{marks_of, Design}
use Rattle.netlist.specs.Sound as netlists
use Rattle.run_terms.specs.Automata as automata
use Rattle.run_terms.specs.Automata.{TestsSignals}
use Rattle.run_terms.specs.Formulas.{whole}
use Rattle.run_terms.specs.Moves.{first_literals, latch_term, move_terms, same_term, shift_terms}
use Rattle.run_terms.specs.Positions.{current, earlier, had}
use Rattle.run_terms.specs.Sizes.{constructors, formula_bulk, positive_size, terms_size}
use Rattle.run_terms.specs.Tables.{before_terms, guarded, table_term, valuation_terms}
use Rattle.run_terms.proofs.Driven.{driven-few}
use Rattle.run_terms.proofs.FormulaSizes.{constructors-many, firsts-size, gates-length, obligations-sum, units-size, whole-size}
use Rattle.run_terms.proofs.MoveSizes.{moves-size}
use Rattle.run_terms.proofs.Netlists.{before-terms_size, valuation-terms_size}
use Rattle.run_terms.proofs.PositiveValues.{positive-gates}
use Rattle.run_terms.proofs.Ranges.{sum-most}
use Rattle.run_terms.proofs.TableSizes.{all_of-size}
use Rattle.joint_theory.specs.Bits.{bad_bit, count_bit, count_of, joint_width, numbers_of, owed_bit, pending_bit}
use Rattle.joint_theory.specs.Queries.{bad_at, base, base_variables, induction, induction_variables, joint_circuit, joint_size, start_literals, with_sign}
use Rattle.joint_theory.specs.Relation.{anew_term, count_term, earlier_terms, emptied_term, joint, owed_term, pending_still, pending_term, put_off_literal, put_off_term, state_terms, step_terms, unary_terms, unasked_owed, unasked_pending, unless_bad}
use Rattle.joint_theory.specs.States.{delta_of, is_accepting, is_listed, not_accepting}
use Rattle.joint_theory.proofs.AskedSizes.{askers-size}
use Rattle.joint_theory.proofs.QueryWithin.{induction_front}
use Rattle.joint_theory.proofs.Within.{joint-closed}

-- a guard takes one gate
guarded-sizes : (guard : ℤ) (terms : List Term) → terms_size (map (guarded guard) terms) ≡ terms_size terms + length terms
guarded-sizes guard [] = refl
guarded-sizes guard (term ∷ terms) =
    omega (arith, sum_by-cons term_size (guarded guard term) (map (guarded guard) terms), sum_by-cons term_size term terms, guarded-sizes guard terms)

pairs-most : (n : ℕ) → pairs n ≤ n * n
pairs-most zero = omega arith
pairs-most (suc n) = let e : suc n * suc n ≡ n * n + n + n + 1 = grind arith in omega (arith, pairs-most n, e)

module _ (design : Design) (automaton : Automaton) (visits : ℕ) (sound : netlists.IsSound design) (right : automata.IsSound automaton) (tests : TestsSignals design automaton)
    (few : visits ≤ 16) where
  abbrev s : ℕ
  s = design.signals

  abbrev many : ℕ
  many = count_of automaton

  abbrev width : ℕ
  width = joint_width design automaton visits

  abbrev r : Relation
  r = joint design automaton visits

  abbrev bulk : ℕ
  bulk = formula_bulk design automaton

  abbrev moves_list : List Term
  moves_list = move_terms s 0 width design.latches

  abbrev owed_list : List Term
  owed_list = map (owed_term design automaton width) (numbers_of automaton)

  abbrev put_off_list : List Term
  put_off_list = map (put_off_term design automaton width) (numbers_of automaton)

  abbrev emptied_list : List Term
  emptied_list = emptied_term design automaton width ∷ []

  abbrev anew_list : List Term
  anew_list = map (anew_term design automaton width) (numbers_of automaton)

  abbrev count_list : List Term
  count_list = map (count_term design automaton width) (range_with_len 0 (suc visits))

  abbrev owed_asked_list : List Term
  owed_asked_list = map (λ number. Negation (unasked_owed design automaton width number)) (numbers_of automaton)

  abbrev pending_asked_list : List Term
  pending_asked_list = map (λ number. Negation (unasked_pending design automaton width number)) (numbers_of automaton)

  abbrev steps : List Term
  steps = step_terms design automaton visits width

  abbrev tables_list : List Term
  tables_list = valuation_terms s 0 design.tables

  abbrev before_list : List Term
  before_list = before_terms 0 design.tables

  abbrev earlier_list : List Term
  earlier_list = earlier_terms design 0

  abbrev pending_list : List Term
  pending_list = map (pending_term design automaton 0) (numbers_of automaton)

  abbrev unary_list : List Term
  unary_list = unary_terms design automaton visits 0

  -- the terms of a state

  earlier-size : terms_size earlier_list ≤ s * 1
  earlier-size = sum-most term_size (λ signal. guarded (earlier 0 signal) (Literal (had 0))) 1 0 s (λ i. omega arith)

  pending-size : terms_size pending_list ≤ many * 1
  pending-size = sum-most term_size (pending_term design automaton 0) 1 0 many each
    where
      by : (number : ℕ) (b : Truth) → is_accepting automaton number ≡ b → term_size (pending_term design automaton 0 number) ≤ 1
      by number true e = rw e (omega arith)
      by number false e = rw e (omega arith)

      each : (number : ℕ) → term_size (pending_term design automaton 0 number) ≤ 1
      each number = by number (is_accepting automaton number) refl

  unary-size : terms_size unary_list ≤ visits * 1
  unary-size = sum-most term_size (λ number. guarded (count_bit design automaton 0 (suc number)) (Literal (count_bit design automaton 0 number))) 1 0 visits (λ i. omega arith)

  state-size : terms_size (state_terms design automaton visits 0) ≤ 4 * marks_of design.tables + 9 * length design.tables + s + many + visits
  state-size =
      omega (
        arith,
        sum_by-append term_size (tables_list ++ before_list ++ earlier_list ++ pending_list) unary_list,
        sum_by-append term_size (tables_list ++ before_list ++ earlier_list) pending_list,
        sum_by-append term_size (tables_list ++ before_list) earlier_list,
        sum_by-append term_size tables_list before_list,
        valuation-terms_size design 0 sound,
        before-terms_size design 0 sound,
        earlier-size,
        pending-size,
        unary-size,
      )

  state-length : length (state_terms design automaton visits 0) ≡ 2 * length design.tables + s + many + visits
  state-length =
      omega (
        arith,
        length-append (tables_list ++ before_list ++ earlier_list ++ pending_list) unary_list,
        length-append (tables_list ++ before_list ++ earlier_list) pending_list,
        length-append (tables_list ++ before_list) earlier_list,
        length-append tables_list before_list,
        length-map design.tables (table_term (current s 0)),
        length-map design.tables (λ table. guarded (had 0) (table_term (earlier 0) table)),
        length-map-range_with_len (λ signal. guarded (earlier 0 signal) (Literal (had 0))) 0 s,
        length-map-range_with_len (pending_term design automaton 0) 0 many,
        length-map-range_with_len (λ number. guarded (count_bit design automaton 0 (suc number)) (Literal (count_bit design automaton 0 number))) 0 visits,
      )

  -- the terms of a step

  owed-size : terms_size owed_list ≤ many + 2 * constructors automaton
  owed-size = obligations-sum (owed_term design automaton width) 2 0 automaton.obligations (λ q low.
      (let e : 0 + q ≡ q = omega arith in
      let size = positive-gates s 0 many 0 (λ other. Literal (owed_bit design width other)) (delta_of automaton q) (right.owed q low) (λ other below. omega arith) in
      subst (λ (k : ℕ). term_size (owed_term design automaton width k) ≤ 1 + 2 * positive_size (obligation_at automaton.obligations q).delta) (sym e) (omega (arith, size))))

  put_off-size : terms_size put_off_list ≤ many + 2 * constructors automaton
  put_off-size = obligations-sum (put_off_term design automaton width) 2 0 automaton.obligations (λ q low.
      (let e : 0 + q ≡ q = omega arith in
      let size = positive-gates s 0 many 0 (λ other. Literal (put_off_literal design automaton width other)) (delta_of automaton q) (right.owed q low) (λ other below. omega arith) in
      subst (λ (k : ℕ). term_size (put_off_term design automaton width k) ≤ 1 + 2 * positive_size (obligation_at automaton.obligations q).delta) (sym e) (omega (arith, size))))

  emptied-size : terms_size emptied_list ≤ many + 4
  emptied-size =
      let literals = map (λ number. neg_ℤ (pending_bit design automaton 0 number)) (numbers_of automaton) in
      omega (
        arith,
        all_of-size (many + 1) (map (λ number. neg_ℤ (pending_bit design automaton 0 number)) (numbers_of automaton)) (omega arith)
            (omega (arith, length-map-range_with_len (λ number. neg_ℤ (pending_bit design automaton 0 number)) 0 many)),
        sum_by-cons term_size (emptied_term design automaton width) [],
      )

  anew-size : terms_size anew_list ≤ many * 2
  anew-size = sum-most term_size (anew_term design automaton width) 2 0 many (λ number. omega arith)

  count-size : terms_size count_list ≤ suc visits * 5
  count-size = sum-most term_size (count_term design automaton width) 5 0 (suc visits) each
    where
      each : (number : ℕ) → term_size (count_term design automaton width number) ≤ 5
      each zero = omega arith
      each (suc number) = omega arith

  owed_asked-size : terms_size owed_asked_list ≤ 3 * constructors automaton
  owed_asked-size =
      let sum = askers-size design automaton (owed_bit design 0) (λ number. Literal (owed_bit design width number)) 0 (λ number. omega arith) in
      omega (arith, sum)

  pending_asked-size : terms_size pending_asked_list ≤ many + 3 * constructors automaton
  pending_asked-size =
      let sum = askers-size design automaton (pending_bit design automaton 0) (pending_still design automaton width) 1 (λ number. omega arith) in
      omega (arith, sum, length-range_with_len 0 many)

  step-size : terms_size steps ≤ 3 * s + 3 * length design.latches + 6 * many + 10 * constructors automaton + 5 * suc visits + 4
  step-size =
      omega (
        arith,
        sum_by-append term_size ((moves_list ++ owed_list ++ put_off_list) ++ (emptied_list ++ anew_list ++ count_list)) (owed_asked_list ++ pending_asked_list),
        sum_by-append term_size owed_asked_list pending_asked_list,
        owed_asked-size,
        pending_asked-size,
        sum_by-append term_size (moves_list ++ owed_list ++ put_off_list) (emptied_list ++ anew_list ++ count_list),
        sum_by-append term_size (moves_list ++ owed_list) put_off_list,
        sum_by-append term_size moves_list owed_list,
        sum_by-append term_size (emptied_list ++ anew_list) count_list,
        sum_by-append term_size emptied_list anew_list,
        moves-size s 0 width design.latches,
        owed-size,
        put_off-size,
        emptied-size,
        anew-size,
        count-size,
      )

  step-length : length steps ≤ s + length design.latches + 5 * many + visits + 3
  step-length =
      let shifts = shift_terms s 0 width in
      omega (
        arith,
        length-append ((moves_list ++ owed_list ++ put_off_list) ++ (emptied_list ++ anew_list ++ count_list)) (owed_asked_list ++ pending_asked_list),
        length-append owed_asked_list pending_asked_list,
        length-map-range_with_len (λ number. Negation (unasked_owed design automaton width number)) 0 many,
        length-map-range_with_len (λ number. Negation (unasked_pending design automaton width number)) 0 many,
        length-append (moves_list ++ owed_list ++ put_off_list) (emptied_list ++ anew_list ++ count_list),
        length-append (moves_list ++ owed_list) put_off_list,
        length-append moves_list owed_list,
        length-append (emptied_list ++ anew_list) count_list,
        length-append emptied_list anew_list,
        length-append (shift_terms s 0 width) (map (latch_term s 0 width) design.latches),
        length-map-range_with_len (λ signal. same_term (earlier width signal) (current s 0 signal)) 0 s,
        length-map design.latches (latch_term s 0 width),
        length-map-range_with_len (owed_term design automaton width) 0 many,
        length-map-range_with_len (put_off_term design automaton width) 0 many,
        length-map-range_with_len (anew_term design automaton width) 0 many,
        length-map-range_with_len (count_term design automaton width) 0 (suc visits),
      )

  -- all terms

  driven : length design.tables + length design.latches ≤ s
  driven = omega (arith, driven-few design sound)

  many-constructors : many ≤ constructors automaton
  many-constructors = constructors-many automaton.obligations

  abbrev guards : List Term
  guards = unless_bad design automaton visits steps

  holds-length : length r.holds ≤ 10 * bulk
  holds-length =
      omega (
        arith,
        length-append (state_terms design automaton visits 0) guards,
        length-map steps (guarded (neg_ℤ (bad_bit design automaton visits))),
        state-length,
        step-length,
        driven,
        many-constructors,
      )

  holds-size : terms_size r.holds ≤ 22 * bulk
  holds-size =
      omega (
        arith,
        sum_by-append term_size (state_terms design automaton visits 0) guards,
        guarded-sizes (neg_ℤ (bad_bit design automaton visits)) steps,
        state-size,
        step-size,
        step-length,
        driven,
        many-constructors,
      )

  width-most : width ≤ 3 * bulk
  width-most = omega (arith, many-constructors)

  gates-most : joint_size design automaton visits ≤ 34 * bulk
  gates-most = omega (arith, gates-length r (joint-closed design automaton visits sound right tests), holds-size, width-most)

  -- words

  whole-most : (last : ℕ) → clause_words (whole r last) ≤ suc last * (300 * bulk)
  whole-most last =
      let one : suc last * (10 * terms_size r.holds) ≤ suc last * (10 * (22 * bulk)) = mul-le-mul_left (suc last) (omega (arith, holds-size)) in
      let two : last * (2 * length r.holds + 6 * r.width) ≤ last * (2 * (10 * bulk) + 6 * (3 * bulk)) = mul-le-mul_left last (omega (arith, holds-length, width-most)) in
      omega (arith, whole-size r last (joint-closed design automaton visits sound right tests), one, two, holds-length)

  start-length : length (start_literals design automaton visits) ≤ 5 * bulk
  start-length =
      let first = first_literals s 0 design.latches in
      let owed = map (λ number. with_sign (is_listed (automaton.start ∷ []) number) (owed_bit design 0 number)) (numbers_of automaton) in
      let pending = map (λ number. with_sign (is_listed (not_accepting automaton (automaton.start ∷ [])) number) (pending_bit design automaton 0 number)) (numbers_of automaton) in
      let counts = map (λ number. neg_ℤ (count_bit design automaton 0 number)) (range_with_len 0 (suc visits)) in
      omega (
        arith,
        length-append (first ++ owed ++ pending) counts,
        length-append (first ++ owed) pending,
        length-append first owed,
        firsts-size s 0 design.latches,
        length-map-range_with_len (λ number. with_sign (is_listed (automaton.start ∷ []) number) (owed_bit design 0 number)) 0 many,
        length-map-range_with_len (λ number. with_sign (is_listed (not_accepting automaton (automaton.start ∷ [])) number) (pending_bit design automaton 0 number)) 0 many,
        length-map-range_with_len (λ number. neg_ℤ (count_bit design automaton 0 number)) 0 (suc visits),
        driven,
        many-constructors,
      )

  base-linear : (last : ℕ) → clause_words (base design automaton visits (suc last)) ≤ suc last * (400 * bulk)
  base-linear last =
      let bads = map (bad_at design automaton visits) (range_with_len 0 (suc last)) in
      let start = units 0 (start_literals design automaton visits) in
      let much : suc last * 64 ≤ suc last * bulk = mul-le-mul_left (suc last) (omega arith) in
      let more : bulk ≤ suc last * bulk = omega arith in
      omega (
        arith,
        words-append (whole r last ++ start) (bads ∷ []),
        words-append (whole r last) start,
        words-cons bads [],
        units-size 0 (start_literals design automaton visits),
        length-map-range_with_len (bad_at design automaton visits) 0 (suc last),
        whole-most last,
        start-length,
        much,
        more,
      )

  square : (p x y factor : ℕ) → 0 < p → factor ≤ 1000 → x ≤ p * (factor * y) → x ≤ 1000 * p * p * y
  square p x y factor some small h =
      let one : p * (factor * y) ≤ p * (1000 * y) = mul-le-mul_left p (lot y factor small) in
      let two : p * (1000 * y) ≤ p * (p * (1000 * y)) = mul-le-mul_left p (grow p (1000 * y) some) in
      let three : p * (p * (1000 * y)) ≡ 1000 * p * p * y = grind arith in
      omega (arith, h, one, two, three)
    where
      lot : (z f : ℕ) → f ≤ 1000 → f * z ≤ 1000 * z
      lot z f h = grind arith

      grow : (p z : ℕ) → 0 < p → z ≤ p * z
      grow zero z some = absurd (omega arith)
      grow (suc p) z some = omega (arith, suc-mul p z)

  pub base-words : (window : ℕ) → clause_words (base design automaton visits window) ≤ 1000 * suc window * suc window * bulk
  base-words zero = omega (arith, words-cons [] [])
  base-words (suc last) =
      let more : suc last * (400 * bulk) ≤ suc (suc last) * (400 * bulk) = omega (arith, suc-mul (suc last) (400 * bulk)) in
      square (suc (suc last)) (clause_words (base design automaton visits (suc last))) bulk 400 (omega arith) (omega arith) (omega (arith, base-linear last, more))

  pub base-variables : (window : ℕ) → base_variables design automaton visits window ≤ 1000 * suc window * suc window * bulk
  base-variables window =
      let most : window * joint_size design automaton visits ≤ window * (34 * bulk) = mul-le-mul_left window gates-most in
      let more : window * (34 * bulk) ≤ suc window * (34 * bulk) = omega (arith, suc-mul window (34 * bulk)) in
      square (suc window) (base_variables design automaton visits window) bulk 34 (omega arith) (omega arith) (omega (arith, most, more))

  -- the clauses that the states are different

  pairs-square : (window : ℕ) → pairs window ≤ suc window * suc window
  pairs-square window = let e : suc window * suc window ≡ window * window + window + window + 1 = grind arith in omega (arith, pairs-most window, e)

  not_bads-words : (count first : ℕ) → clause_words (map (λ position. neg_ℤ (bad_at design automaton visits position) ∷ []) (range_with_len first count)) ≡ 2 * count
  not_bads-words zero first = refl
  not_bads-words (suc count) first =
      omega (
        arith,
        words-cons (neg_ℤ (bad_at design automaton visits first) ∷ []) (map (λ position. neg_ℤ (bad_at design automaton visits position) ∷ []) (range_with_len (first + 1) count)),
        not_bads-words count (first + 1),
      )

  front-linear : (window : ℕ) → clause_words (induction_front design automaton visits sound right tests window) ≤ suc window * (400 * bulk)
  front-linear window =
      let goods = map (λ position. neg_ℤ (bad_at design automaton visits position) ∷ []) (range_with_len 0 window) in
      let bad = bad_at design automaton visits window ∷ [] in
      let much : suc window * 64 ≤ suc window * bulk = mul-le-mul_left (suc window) (omega arith) in
      omega (
        arith,
        words-append (whole r window ++ goods) (bad ∷ []),
        words-append (whole r window) goods,
        words-cons bad [],
        not_bads-words window 0,
        whole-most window,
        much,
      )

  times-most : (window x y : ℕ) → x ≤ y → pairs window * x ≤ suc window * suc window * y
  times-most window x y h =
      let one : pairs window * x ≤ pairs window * y = mul-le-mul_left (pairs window) h in
      let two : pairs window * y ≤ suc window * suc window * y = up (pairs window) (suc window * suc window) y (pairs-square window) in
      omega arith
    where
      up : (a b c : ℕ) → a ≤ b → a * c ≤ b * c
      up a b c h = grind arith

  distinct-most : (window : ℕ) → clause_words (distinct (joint_circuit design automaton visits) (suc window * joint_size design automaton visits) window) ≤ suc window * suc window * (28 * bulk)
  distinct-most window =
      let words = distinct-words (joint_circuit design automaton visits) (suc window * joint_size design automaton visits) window in
      let most = times-most window (9 * length (joint_circuit design automaton visits).now + 1) (28 * bulk) (omega (arith, length-following 0 width, width-most)) in
      omega (arith, words, most)

  pub induction-words : (window : ℕ) → clause_words (induction design automaton visits window) ≤ 1000 * suc window * suc window * bulk
  induction-words window =
      let p = suc window in
      let all = words-append (induction_front design automaton visits sound right tests window)
      (distinct (joint_circuit design automaton visits) (suc window * joint_size design automaton visits) window) in
      let front : suc window * (400 * bulk) ≤ suc window * suc window * (400 * bulk) = grow (suc window) (suc window * (400 * bulk)) (suc window * suc window * (400 * bulk)) (omega arith) (grind arith) in
      let sum : suc window * suc window * (400 * bulk) + suc window * suc window * (28 * bulk) ≤ 1000 * suc window * suc window * bulk =
      both (suc window * suc window) bulk (1000 * suc window * suc window * bulk) (grind arith) in
      omega (arith, all, front-linear window, distinct-most window, front, sum)
    where
      grow : (p z w : ℕ) → 0 < p → w ≡ p * z → z ≤ w
      grow zero z w some e = absurd (omega arith)
      grow (suc p) z w some e = omega (arith, suc-mul p z)

      both : (q y z : ℕ) → z ≡ q * (1000 * y) → q * (400 * y) + q * (28 * y) ≤ z
      both q y z e =
          let f : q * (400 * y) + q * (28 * y) ≡ q * (428 * y) = grind arith in
          let g : q * (428 * y) ≤ q * (1000 * y) = mul-le-mul_left q (omega arith) in
          omega arith

  pub induction-variables : (window : ℕ) → induction_variables design automaton visits window ≤ 1000 * suc window * suc window * bulk
  induction-variables window =
      let most : suc window * joint_size design automaton visits ≤ suc window * (34 * bulk) = mul-le-mul_left (suc window) gates-most in
      let front : suc window * (34 * bulk) ≤ suc window * suc window * (34 * bulk) = grow (suc window) (suc window * (34 * bulk)) (suc window * suc window * (34 * bulk)) (omega arith) (grind arith) in
      let more = times-most window (length (joint_circuit design automaton visits).now) (3 * bulk) (omega (arith, length-following 0 width, width-most)) in
      let sum : suc window * suc window * (34 * bulk) + suc window * suc window * (3 * bulk) ≤ 1000 * suc window * suc window * bulk =
      both (suc window * suc window) bulk (1000 * suc window * suc window * bulk) (grind arith) in
      omega (arith, most, front, more, sum)
    where
      grow : (p z w : ℕ) → 0 < p → w ≡ p * z → z ≤ w
      grow zero z w some e = absurd (omega arith)
      grow (suc p) z w some e = omega (arith, suc-mul p z)

      both : (q y z : ℕ) → z ≡ q * (1000 * y) → q * (34 * y) + q * (3 * y) ≤ z
      both q y z e =
          let f : q * (34 * y) + q * (3 * y) ≡ q * (37 * y) = grind arith in
          let g : q * (37 * y) ≤ q * (1000 * y) = mul-le-mul_left q (omega arith) in
          omega arith
