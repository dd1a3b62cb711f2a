-- The terms of a step are true just where the second of two joint states may follow the first.
use Rattle.std.proofs.Common.{◌≡◌, ◌⊎◌, inl, inr, refl, sym, ap, ◌∙◌, ℕ, zero, suc, ◌≤◌, ◌<◌, min, neg_ℤ, Bool as Truth, true, false, not, ◌&&◌, ◌||◌, eqb, ltb, List, [], ◌∷◌, ◌++◌, map, length, get_or, arith}
use Rattle.std.specs.Prelude.{IsTrue, All, slice_index, if◌then◌else◌}
use Rattle.std.specs.List.{list_all, range_with_len}
use Rattle.std.proofs.lemmas.Bool.{cases_Bool, cases_eq, both_ways, and_parts, and_from, or_left, or_right, lt-ltb, le-ltb, ltb-true, ltb-false, not-true, not_from_false, false_from_ne_true, eq-eqb, eqb-true, ne_eqb}
use Rattle.std.proofs.lemmas.List.Elements.{All-filter}
use Rattle.std.proofs.lemmas.List.Kept.{IsStrictlyIncreasing-filter}
use Rattle.alternating_theory.specs.Atoms.{AtomsOfObligations, AtomsOfPositive}
use Rattle.alternating_theory.specs.Obligations.{Automaton, Obligation, obligation_at}
use Rattle.alternating_theory.specs.Positive.{met}
use Rattle.alternating_theory.proofs.MetLaws.{met-same}
use Rattle.clauses.specs.Models.{Assignment, is_true}
use Rattle.gates_theory.specs.Circuits.{same}
use Rattle.gates_theory.specs.Terms.{Term, value}
use Rattle.gates_theory.specs.Terms.Term.{Literal, Negation, Conjunction}
use Rattle.gates_theory.proofs.Literals.{true-neg}
use Rattle.gates_theory.proofs.Parts.{same-is, same-from}
use Rattle.netlist.specs.Design.{Design}
use Rattle.netlist.specs.Sound as netlists
use Rattle.psl_tree.specs.Names.{AtomInRange}
use Rattle.psl_tree.specs.declared.atom.Atom.{Atom}
use Rattle.run_terms.specs.Automata as automata
use Rattle.run_terms.specs.Automata.{TestsSignals}
use Rattle.run_terms.specs.Combinations.{positive_term}
use Rattle.run_terms.specs.Moves.{move_terms}
use Rattle.run_terms.specs.Tables.{all_of, guarded}
use Rattle.run_terms.proofs.Logic.{either-value, guarded-from, guarded-says}
use Rattle.run_terms.proofs.Netlists.{moves-say}
use Rattle.run_terms.proofs.PositiveValues.{positive-value}
use Rattle.run_terms.proofs.Ranges.{all-below, below-all}
use Rattle.run_terms.proofs.TableValues.{all_of-value}
use Rattle.joint_theory.specs.Bits.{count_bit, count_of, numbers_of, owed_bit, pending_bit, AreBits}
use Rattle.joint_theory.specs.Relation.{anew_term, askers, count_term, emptied_bit, emptied_term, owed_term, pending_still, put_off_literal, put_off_term, step_terms, unasked_owed, unasked_pending}
use Rattle.joint_theory.specs.States.{delta_of, is_accepting, is_asked, is_listed, letter_in, may_meet, not_accepting, AreNeighbours, IsState}
use Rattle.joint_theory.specs.declared.path.JointState.{JointState}
use Rattle.joint_theory.proofs.Asked.{asked-bits, unasked-value}
use Rattle.joint_theory.proofs.Numbers.{at-listed, contains-listed, from-listed, listed-filter}
use Rattle.joint_theory.proofs.Parts.{append-from, append-parts, one-from, one-part}
use Rattle.joint_theory.proofs.Rising.{rising-same, same-count}
use Rattle.joint_theory.proofs.StateBits.{pending-numbers, state-sizes}

pub atoms-at : (P : Atom → Type 0) (obligations : List Obligation) (number : ℕ) → AtomsOfObligations P obligations → AtomsOfPositive P (obligation_at obligations number).delta
atoms-at P [] number atoms = tt
atoms-at P (obligation ∷ obligations) zero atoms = atoms.0
atoms-at P (obligation ∷ obligations) (suc number) atoms = atoms-at P obligations number atoms.1

-- whether a list is empty
none-listed : (numbers : List ℕ) → length numbers ≡ 0 → (number : ℕ) → is_listed numbers number ≡ false
none-listed [] e number = refl
none-listed (x ∷ numbers) e number = absurd (omega arith)

some-listed : (numbers : List ℕ) → 0 < length numbers → IsTrue (is_listed numbers (slice_index numbers 0))
some-listed [] some = absurd (omega arith)
some-listed (x ∷ numbers) some = or_left (eqb x x) (is_listed numbers x) (eq-eqb x x refl)

-- the second state's bits follow so many others
module _ (design : Design) (automaton : Automaton) (visits : ℕ) (sound : netlists.IsSound design) (right : automata.IsSound automaton) (tests : TestsSignals design automaton)
    (next : ℕ) (v : Assignment) (x y : JointState) (is : IsState design automaton visits x) (also : IsState design automaton visits y)
    (bits : AreBits design automaton visits 0 v x) (later : AreBits design automaton visits next v y) where
  abbrev many : ℕ
  many = count_of automaton

  abbrev owed_next : ℕ → Term
  owed_next other = Literal (owed_bit design next other)

  abbrev put_off_next : ℕ → Term
  put_off_next other = Literal (put_off_literal design automaton next other)

  -- what an obligation asks
  asked-value : (owed : ℕ → Term) (f : ℕ → Truth) (number : ℕ) → number < many → ((other : ℕ) → other < many → value v (owed other) ≡ f other)
      → value v (positive_term design.signals 0 owed (delta_of automaton number)) ≡ met (delta_of automaton number) (letter_in design x) f
  asked-value owed f number below each =
      positive-value design.signals 0 design.names v x.before x.valuation owed (delta_of automaton number) sound.names
      (atoms-at (AtomInRange design.names) automaton.obligations number tests) bits.position
      ∙ met-same 0 many (delta_of automaton number) (right.owed number below) (letter_in design x) (λ other. value v (owed other)) f (λ other _ low. each other low)

  -- what may meet what is pending
  pending-owed : (number : ℕ) → IsTrue (is_listed y.pending number) → IsTrue (is_listed y.owed number)
  pending-owed number h = at-listed (λ n. IsTrue (is_listed y.owed n)) y.pending (from-among) number h
    where
      from-among : All (λ n. IsTrue (is_listed y.owed n)) y.pending
      from-among k other below = contains-listed y.owed (get_or y.pending k other) (also.among k other below)

  absorbed : (owed pending : Truth) → (pending ≡ true → owed ≡ true) → pending ≡ (owed && pending)
  absorbed true pending less = refl
  absorbed false true less = sym (less refl)
  absorbed false false less = refl

  always : (t : Truth) → (t && true) ≡ t
  always true = refl
  always false = refl

  put-off_value : (other : ℕ) → other < many → value v (put_off_next other) ≡ may_meet automaton y other
  put-off_value other below = by (is_accepting automaton other) refl
    where
      by : (b : Truth) → is_accepting automaton other ≡ b → is_true v (if is_accepting automaton other then owed_bit design next other else pending_bit design automaton next other)
          ≡ (is_listed y.owed other && (is_accepting automaton other || is_listed y.pending other))
      by true e = rw e (later.owed other below ∙ sym (always (is_listed y.owed other)))
      by false e = rw e (later.pending other below ∙ absorbed (is_listed y.owed other) (is_listed y.pending other) (pending-owed other))

  -- what is owed

  owed-says : (number : ℕ) → number < many → IsTrue (value v (owed_term design automaton next number)) → IsTrue (is_listed x.owed number)
      → IsTrue (met (delta_of automaton number) (letter_in design x) (is_listed y.owed))
  owed-says number below h listed =
      sym (asked-value owed_next (is_listed y.owed) number below later.owed)
      ∙ guarded-says v (owed_bit design 0 number) (positive_term design.signals 0 owed_next (delta_of automaton number)) h (bits.owed number below ∙ listed)

  owed-from : (number : ℕ) → number < many → (IsTrue (is_listed x.owed number) → IsTrue (met (delta_of automaton number) (letter_in design x) (is_listed y.owed)))
      → IsTrue (value v (owed_term design automaton next number))
  owed-from number below h =
      guarded-from v (owed_bit design 0 number) (positive_term design.signals 0 owed_next (delta_of automaton number))
      (λ on. asked-value owed_next (is_listed y.owed) number below later.owed ∙ h (sym (bits.owed number below) ∙ on))

  -- what is pending

  pending-says : (number : ℕ) → number < many → IsTrue (value v (put_off_term design automaton next number)) → IsTrue (is_listed x.pending number)
      → IsTrue (met (delta_of automaton number) (letter_in design x) (may_meet automaton y))
  pending-says number below h listed =
      sym (asked-value put_off_next (may_meet automaton y) number below put-off_value)
      ∙ guarded-says v (pending_bit design automaton 0 number) (positive_term design.signals 0 put_off_next (delta_of automaton number)) h (bits.pending number below ∙ listed)

  pending-from : (number : ℕ) → number < many → (IsTrue (is_listed x.pending number) → IsTrue (met (delta_of automaton number) (letter_in design x) (may_meet automaton y)))
      → IsTrue (value v (put_off_term design automaton next number))
  pending-from number below h =
      guarded-from v (pending_bit design automaton 0 number) (positive_term design.signals 0 put_off_next (delta_of automaton number))
      (λ on. asked-value put_off_next (may_meet automaton y) number below put-off_value ∙ h (sym (bits.pending number below) ∙ on))

  -- whether nothing is pending

  abbrev none_pending : Truth
  none_pending = eqb (length x.pending) 0

  none-literals : list_all (is_true v) (map (λ number. neg_ℤ (pending_bit design automaton 0 number)) (numbers_of automaton)) ≡ none_pending
  none-literals = elim (cases_eq (length x.pending) 0) [
    | inl e ↦ all-off e ∙ sym (eq-eqb (length x.pending) 0 e)
    | inr n ↦ one-on n ∙ sym (ne_eqb (length x.pending) 0 n)
  ]
    where
      off : (number : ℕ) → number < many → is_true v (neg_ℤ (pending_bit design automaton 0 number)) ≡ not (is_listed x.pending number)
      off number below = true-neg v (pending_bit design automaton 0 number) (omega arith) ∙ ap not (bits.pending number below)

      all-off : length x.pending ≡ 0 → list_all (is_true v) (map (λ number. neg_ℤ (pending_bit design automaton 0 number)) (numbers_of automaton)) ≡ true
      all-off e = below-all (is_true v) (λ number. neg_ℤ (pending_bit design automaton 0 number)) many
          (λ number below. off number below ∙ not_from_false (is_listed x.pending number) (none-listed x.pending e number))

      one-on : (length x.pending ≡ 0 → ⊥) → list_all (is_true v) (map (λ number. neg_ℤ (pending_bit design automaton 0 number)) (numbers_of automaton)) ≡ false
      one-on n =
          let some : 0 < length x.pending = omega (arith, n) in
          let first = slice_index x.pending 0 in
          let low : slice_index x.pending 0 < many = pending-numbers design automaton visits x is 0 0 some in
          false_from_ne_true (list_all (is_true v) (map (λ number. neg_ℤ (pending_bit design automaton 0 number)) (numbers_of automaton)))
          (λ h. both_ways (is_listed x.pending (slice_index x.pending 0))
          (not-true (is_listed x.pending (slice_index x.pending 0)) (sym (off (slice_index x.pending 0) low)
          ∙ all-below (is_true v) (λ number. neg_ℤ (pending_bit design automaton 0 number)) many h (slice_index x.pending 0) low))
          (some-listed x.pending some))

  emptied-says : IsTrue (value v (emptied_term design automaton next)) → is_true v (emptied_bit next) ≡ none_pending
  emptied-says h =
      same-is (is_true v (emptied_bit next)) (value v (all_of (map (λ number. neg_ℤ (pending_bit design automaton 0 number)) (numbers_of automaton)))) h
      ∙ all_of-value v (map (λ number. neg_ℤ (pending_bit design automaton 0 number)) (numbers_of automaton)) ∙ none-literals

  emptied-from : is_true v (emptied_bit next) ≡ none_pending → IsTrue (value v (emptied_term design automaton next))
  emptied-from e =
      same-from (is_true v (emptied_bit next)) (value v (all_of (map (λ number. neg_ℤ (pending_bit design automaton 0 number)) (numbers_of automaton))))
      (e ∙ sym (all_of-value v (map (λ number. neg_ℤ (pending_bit design automaton 0 number)) (numbers_of automaton)) ∙ none-literals))

  -- what becomes pending

  put_off-pending : (number : ℕ) → is_accepting automaton number ≡ false → is_true v (put_off_literal design automaton next number) ≡ is_true v (pending_bit design automaton next number)
  put_off-pending number e = ap (λ (t : Truth). is_true v (if t then owed_bit design next number else pending_bit design automaton next number)) e

  put_off-owed : (number : ℕ) → is_accepting automaton number ≡ true → is_true v (put_off_literal design automaton next number) ≡ is_true v (owed_bit design next number)
  put_off-owed number e = ap (λ (t : Truth). is_true v (if t then owed_bit design next number else pending_bit design automaton next number)) e

  anew-says : (number : ℕ) → number < many → IsTrue (value v (anew_term design automaton next number)) → is_true v (emptied_bit next) ≡ true
      → is_accepting automaton number ≡ false → IsTrue (is_listed y.owed number) → IsTrue (is_listed y.pending number)
  anew-says number below h empty e listed =
      sym (put_off-pending number e ∙ later.pending number below)
      ∙ guarded-says v (owed_bit design next number) (Literal (put_off_literal design automaton next number))
      (guarded-says v (emptied_bit next) (guarded (owed_bit design next number) (Literal (put_off_literal design automaton next number))) h empty)
      (later.owed number below ∙ listed)

  anew-from : (number : ℕ) → number < many → (is_true v (emptied_bit next) ≡ true → is_accepting automaton number ≡ false → IsTrue (is_listed y.owed number) → IsTrue (is_listed y.pending number))
      → IsTrue (value v (anew_term design automaton next number))
  anew-from number below h =
      guarded-from v (emptied_bit next) (guarded (owed_bit design next number) (Literal (put_off_literal design automaton next number)))
      (λ empty. guarded-from v (owed_bit design next number) (Literal (put_off_literal design automaton next number)) (by empty (cases_Bool (is_accepting automaton number))))
    where
      by : is_true v (emptied_bit next) ≡ true → (is_accepting automaton number ≡ true) ⊎ (is_accepting automaton number ≡ false) → is_true v (owed_bit design next number) ≡ true
          → IsTrue (is_true v (put_off_literal design automaton next number))
      by empty (inl e) on = put_off-owed number e ∙ on
      by empty (inr e) on = put_off-pending number e ∙ later.pending number below ∙ h empty e (sym (later.owed number below) ∙ on)

  -- the count

  -- whether the count is more than a number next, where nothing is pending or something is
  abbrev counts_on : Truth → ℕ → Truth
  counts_on empty number = ltb number (if empty then min (suc x.count) (suc visits) else x.count)

  or-off : (t : Truth) → (t || false) ≡ t
  or-off true = refl
  or-off false = refl

  count-value : (empty : Truth) (number : ℕ) → number < suc visits → is_true v (emptied_bit next) ≡ empty
      → value v (count_term design automaton next number) ≡ same (is_true v (count_bit design automaton next number)) (counts_on empty number)
  count-value true zero below e =
      ap (same (is_true v (count_bit design automaton next 0)))
      (either-value v (Literal (count_bit design automaton 0 0)) (Literal (emptied_bit next))
      ∙ or_right (is_true v (count_bit design automaton 0 0)) (is_true v (emptied_bit next)) e ∙ sym (lt-ltb 0 (min (suc x.count) (suc visits)) (omega arith)))
  count-value false zero below e =
      ap (same (is_true v (count_bit design automaton next 0)))
      (either-value v (Literal (count_bit design automaton 0 0)) (Literal (emptied_bit next))
      ∙ ap (λ t. is_true v (count_bit design automaton 0 0) || t) e ∙ or-off (is_true v (count_bit design automaton 0 0)) ∙ bits.count 0 below)
  count-value true (suc number) below e =
      ap (same (is_true v (count_bit design automaton next (suc number))))
      (either-value v (Literal (count_bit design automaton 0 (suc number))) (Conjunction (Literal (emptied_bit next)) (Literal (count_bit design automaton 0 number)))
      ∙ ap (λ t. is_true v (count_bit design automaton 0 (suc number)) || (t && is_true v (count_bit design automaton 0 number))) e
      ∙ ap (λ t. t || is_true v (count_bit design automaton 0 number)) (bits.count (suc number) below)
      ∙ ap (λ t. ltb (suc number) x.count || t) (bits.count number (omega arith)) ∙ one-more (cases_Bool (ltb number x.count)))
    where
      one-more : (ltb number x.count ≡ true) ⊎ (ltb number x.count ≡ false) → (ltb (suc number) x.count || ltb number x.count) ≡ ltb (suc number) (min (suc x.count) (suc visits))
      one-more (inl less) =
          or_right (ltb (suc number) x.count) (ltb number x.count) less
          ∙ sym (lt-ltb (suc number) (min (suc x.count) (suc visits)) (omega (arith, ltb-true number x.count less)))
      one-more (inr more) =
          ap (λ t. t || ltb number x.count) (le-ltb (suc number) x.count (omega (arith, ltb-false number x.count more))) ∙ more
          ∙ sym (le-ltb (suc number) (min (suc x.count) (suc visits)) (omega (arith, ltb-false number x.count more)))
  count-value false (suc number) below e =
      ap (same (is_true v (count_bit design automaton next (suc number))))
      (either-value v (Literal (count_bit design automaton 0 (suc number))) (Conjunction (Literal (emptied_bit next)) (Literal (count_bit design automaton 0 number)))
      ∙ ap (λ t. is_true v (count_bit design automaton 0 (suc number)) || (t && is_true v (count_bit design automaton 0 number))) e
      ∙ or-off (is_true v (count_bit design automaton 0 (suc number))) ∙ bits.count (suc number) below)

  counts-few : (empty : Truth) → (if empty then min (suc x.count) (suc visits) else x.count) ≤ suc visits
  counts-few true = omega arith
  counts-few false = is.count

  count-says : (empty : Truth) → is_true v (emptied_bit next) ≡ empty → ((number : ℕ) → number < suc visits → IsTrue (value v (count_term design automaton next number)))
      → y.count ≡ (if empty then min (suc x.count) (suc visits) else x.count)
  count-says empty e each =
      same-count (suc visits) y.count (if empty then min (suc x.count) (suc visits) else x.count) also.count (counts-few empty)
      (λ number below. sym (later.count number below)
      ∙ same-is (is_true v (count_bit design automaton next number)) (counts_on empty number) (sym (count-value empty number below e) ∙ each number below))

  count-from : (empty : Truth) → is_true v (emptied_bit next) ≡ empty → y.count ≡ (if empty then min (suc x.count) (suc visits) else x.count)
      → (number : ℕ) → number < suc visits → IsTrue (value v (count_term design automaton next number))
  count-from empty e same_counts number below =
      count-value empty number below e
      ∙ same-from (is_true v (count_bit design automaton next number)) (counts_on empty number) (later.count number below ∙ ap (ltb number) same_counts)

  -- what nothing asks for

  abbrev owed_asked : ℕ → Term
  owed_asked number = Negation (unasked_owed design automaton next number)

  abbrev pending_asked : ℕ → Term
  pending_asked number = Negation (unasked_pending design automaton next number)

  owed_asked-value : (number : ℕ) → number < many → value v (owed_asked number) ≡ not (is_listed y.owed number && not (is_asked automaton (letter_in design x) x.owed number))
  owed_asked-value number below =
      ap not (unasked-value design automaton v x.before x.valuation sound.names tests bits.position (owed_bit design 0) number (Literal (owed_bit design next number)) (askers automaton number)
      ∙ ap (λ t. is_true v (owed_bit design next number) && not t)
      (asked-bits automaton (letter_in design x) v (owed_bit design 0) x.owed number is.owed is.numbers bits.owed)
      ∙ ap (λ t. t && not (is_asked automaton (letter_in design x) x.owed number)) (later.owed number below))

  pending_asked-value : (number : ℕ) → number < many
      → value v (pending_asked number) ≡ not (is_listed y.pending number && (not (is_true v (emptied_bit next)) && not (is_asked automaton (letter_in design x) x.pending number)))
  pending_asked-value number below =
      let asked = is_asked automaton (letter_in design x) x.pending number in
      ap not (unasked-value design automaton v x.before x.valuation sound.names tests bits.position (pending_bit design automaton 0) number (pending_still design automaton next number)
      (askers automaton number)
      ∙ ap (λ t. (is_true v (pending_bit design automaton next number) && is_true v (neg_ℤ (emptied_bit next))) && not t)
      (asked-bits automaton (letter_in design x) v (pending_bit design automaton 0) x.pending number is.pending (pending-numbers design automaton visits x is) bits.pending)
      ∙ ap (λ t. (t && is_true v (neg_ℤ (emptied_bit next))) && not asked) (later.pending number below)
      ∙ ap (λ t. (is_listed y.pending number && t) && not asked) (true-neg v (emptied_bit next) (omega arith))
      ∙ three (is_listed y.pending number) (not (is_true v (emptied_bit next))) (not asked))
    where
      three : (a b c : Truth) → ((a && b) && c) ≡ (a && (b && c))
      three true b c = refl
      three false b c = refl

  -- if one holds and another does not, a third does
  either-way : (a b c : Truth) → IsTrue (not (a && (not b && not c))) → a ≡ true → b ≡ false → c ≡ true
  either-way true false true h on off = refl
  either-way true false false h on off = h
  either-way true true c h on off = absurd (cc)
  either-way false b c h on off = absurd (cc)

  from-either : (a b c : Truth) → (a ≡ true → b ≡ false → c ≡ true) → IsTrue (not (a && (not b && not c)))
  from-either true false true h = refl
  from-either true false false h = h refl refl
  from-either true true c h = refl
  from-either false b c h = refl

  owed_asked-says : (number : ℕ) → number < many → IsTrue (value v (owed_asked number)) → IsTrue (is_listed y.owed number) → IsTrue (is_asked automaton (letter_in design x) x.owed number)
  owed_asked-says number below h listed =
      either-way (is_listed y.owed number) false (is_asked automaton (letter_in design x) x.owed number) (sym (owed_asked-value number below) ∙ h) listed refl

  owed_asked-from : (number : ℕ) → number < many → (IsTrue (is_listed y.owed number) → IsTrue (is_asked automaton (letter_in design x) x.owed number)) → IsTrue (value v (owed_asked number))
  owed_asked-from number below h =
      owed_asked-value number below ∙ from-either (is_listed y.owed number) false (is_asked automaton (letter_in design x) x.owed number) (λ on _. h on)

  pending_asked-says : (number : ℕ) → number < many → IsTrue (value v (pending_asked number)) → is_true v (emptied_bit next) ≡ false
      → IsTrue (is_listed y.pending number) → IsTrue (is_asked automaton (letter_in design x) x.pending number)
  pending_asked-says number below h some listed =
      either-way (is_listed y.pending number) (is_true v (emptied_bit next)) (is_asked automaton (letter_in design x) x.pending number)
      (sym (pending_asked-value number below) ∙ h) listed some

  pending_asked-from : (number : ℕ) → number < many
      → (IsTrue (is_listed y.pending number) → is_true v (emptied_bit next) ≡ false → IsTrue (is_asked automaton (letter_in design x) x.pending number)) → IsTrue (value v (pending_asked number))
  pending_asked-from number below h =
      pending_asked-value number below ∙ from-either (is_listed y.pending number) (is_true v (emptied_bit next)) (is_asked automaton (letter_in design x) x.pending number) h

  -- all terms of a step

  same-truth : (a b : Truth) → (a ≡ true → b ≡ true) → (b ≡ true → a ≡ true) → a ≡ b
  same-truth true b there back = sym (there refl)
  same-truth false true there back = back refl
  same-truth false false there back = refl

  owed-numbers : All (λ number. number < many) y.owed
  owed-numbers = also.numbers

  pending-accepting : (number : ℕ) → IsTrue (is_listed y.pending number) → not (is_accepting automaton number) ≡ true
  pending-accepting number h = not_from_false (is_accepting automaton number) (at-listed (λ n. is_accepting automaton n ≡ false) y.pending also.put_off number h)

  -- where what is owed and not accepting is pending, the lists are the same
  anew-pending : ((number : ℕ) → number < many → is_accepting automaton number ≡ false → IsTrue (is_listed y.owed number) → IsTrue (is_listed y.pending number))
      → y.pending ≡ not_accepting automaton y.owed
  anew-pending each =
      rising-same many y.pending (not_accepting automaton y.owed) also.pending (IsStrictlyIncreasing-filter (λ number. not (is_accepting automaton number)) y.owed also.owed)
      (pending-numbers design automaton visits y also) (All-filter (λ number. not (is_accepting automaton number)) (λ number. number < many) y.owed also.numbers)
      (λ number below. same-truth (is_listed y.pending number) (is_listed y.owed number && not (is_accepting automaton number))
      (λ h. and_from (is_listed y.owed number) (not (is_accepting automaton number)) (pending-owed number h) (pending-accepting number h))
      (λ h. let parts = and_parts (is_listed y.owed number) (not (is_accepting automaton number)) h in
      each number below (not-true (is_accepting automaton number) parts.1) parts.0)
      ∙ sym (listed-filter (λ n. not (is_accepting automaton n)) y.owed number))

  record Says : Type 0 where
    moves : IsTrue (list_all (value v) (move_terms design.signals 0 next design.latches))
    owed : (number : ℕ) → number < many → IsTrue (value v (owed_term design automaton next number))
    put_off : (number : ℕ) → number < many → IsTrue (value v (put_off_term design automaton next number))
    emptied : IsTrue (value v (emptied_term design automaton next))
    anew : (number : ℕ) → number < many → IsTrue (value v (anew_term design automaton next number))
    counts : (number : ℕ) → number < suc visits → IsTrue (value v (count_term design automaton next number))
    owed_support : (number : ℕ) → number < many → IsTrue (value v (owed_asked number))
    pending_support : (number : ℕ) → number < many → IsTrue (value v (pending_asked number))

  -- the terms one behind another
  abbrev moves_list : List Term
  moves_list = move_terms design.signals 0 next design.latches

  abbrev owed_list : List Term
  owed_list = map (owed_term design automaton next) (numbers_of automaton)

  abbrev put_off_list : List Term
  put_off_list = map (put_off_term design automaton next) (numbers_of automaton)

  abbrev emptied_list : List Term
  emptied_list = emptied_term design automaton next ∷ []

  abbrev anew_list : List Term
  anew_list = map (anew_term design automaton next) (numbers_of automaton)

  abbrev count_list : List Term
  count_list = map (count_term design automaton next) (range_with_len 0 (suc visits))

  abbrev owed_asked_list : List Term
  owed_asked_list = map owed_asked (numbers_of automaton)

  abbrev pending_asked_list : List Term
  pending_asked_list = map pending_asked (numbers_of automaton)

  terms-say : IsTrue (list_all (value v) (step_terms design automaton visits next)) → Says
  terms-say h =
      let all = append-parts (value v) ((moves_list ++ owed_list ++ put_off_list) ++ (emptied_list ++ anew_list ++ count_list)) (owed_asked_list ++ pending_asked_list) h in
      let both = append-parts (value v) (moves_list ++ owed_list ++ put_off_list) (emptied_list ++ anew_list ++ count_list) all.0 in
      let support = append-parts (value v) owed_asked_list pending_asked_list all.1 in
      let a = append-parts (value v) (emptied_list ++ anew_list) count_list both.1 in
      let b = append-parts (value v) emptied_list anew_list a.0 in
      let d = append-parts (value v) (moves_list ++ owed_list) put_off_list both.0 in
      let e = append-parts (value v) moves_list owed_list d.0 in
      record {
        moves = e.0;
        owed = all-below (value v) (owed_term design automaton next) many e.1;
        put_off = all-below (value v) (put_off_term design automaton next) many d.1;
        emptied = one-part (value v) (emptied_term design automaton next) b.0;
        anew = all-below (value v) (anew_term design automaton next) many b.1;
        counts = all-below (value v) (count_term design automaton next) (suc visits) a.1;
        owed_support = all-below (value v) owed_asked many support.0;
        pending_support = all-below (value v) pending_asked many support.1;
      }

  say-terms : Says → IsTrue (list_all (value v) (step_terms design automaton visits next))
  say-terms says =
      append-from (value v) ((moves_list ++ owed_list ++ put_off_list) ++ (emptied_list ++ anew_list ++ count_list)) (owed_asked_list ++ pending_asked_list)
      (append-from (value v) (moves_list ++ owed_list ++ put_off_list) (emptied_list ++ anew_list ++ count_list)
      (append-from (value v) (moves_list ++ owed_list) put_off_list
      (append-from (value v) moves_list owed_list says.moves (below-all (value v) (owed_term design automaton next) many says.owed))
      (below-all (value v) (put_off_term design automaton next) many says.put_off))
      (append-from (value v) (emptied_list ++ anew_list) count_list
      (append-from (value v) emptied_list anew_list (one-from (value v) (emptied_term design automaton next) says.emptied)
      (below-all (value v) (anew_term design automaton next) many says.anew))
      (below-all (value v) (count_term design automaton next) (suc visits) says.counts)))
      (append-from (value v) owed_asked_list pending_asked_list
      (below-all (value v) owed_asked many says.owed_support) (below-all (value v) pending_asked many says.pending_support))

  says-neighbours : Says → AreNeighbours design automaton visits x y
  says-neighbours says =
      let moved = (moves-say design 0 next v x.before y.before x.valuation y.valuation sound bits.position later.position
      (state-sizes design automaton visits x is) (state-sizes design automaton visits y also)).0 says.moves in
      record {
        step = record { before = is.valuation; after = also.valuation; latches = moved.1 };
        before = moved.0;
        owed = from-listed (λ number. IsTrue (met (delta_of automaton number) (letter_in design x) (is_listed y.owed))) x.owed
            (λ number h. let below = at-listed (λ n. n < many) x.owed is.numbers number h in owed-says number below (says.owed number below) h);
        supported = from-listed (λ number. IsTrue (is_asked automaton (letter_in design x) x.owed number)) y.owed
            (λ number h. let below = at-listed (λ n. n < many) y.owed also.numbers number h in owed_asked-says number below (says.owed_support number below) h);
        put_off = λ some. let full = emptied-says says.emptied ∙ ne_eqb (length x.pending) 0 (λ e. omega (arith, e)) in record {
          met = from-listed (λ number. IsTrue (met (delta_of automaton number) (letter_in design x) (may_meet automaton y))) x.pending
              (λ number h. let below = at-listed (λ n. n < many) x.pending (pending-numbers design automaton visits x is) number h in
              pending-says number below (says.put_off number below) h);
          supported = from-listed (λ number. IsTrue (is_asked automaton (letter_in design x) x.pending number)) y.pending
              (λ number h. let below = at-listed (λ n. n < many) y.pending (pending-numbers design automaton visits y also) number h in
              pending_asked-says number below (says.pending_support number below) full h);
          count = count-says false full says.counts;
        };
        anew = λ none. let empty = emptied-says says.emptied ∙ eq-eqb (length x.pending) 0 none in record {
          pending = anew-pending (λ number below e h. anew-says number below (says.anew number below) empty e h);
          count = count-says true empty says.counts;
        };
      }

  neighbours-says : AreNeighbours design automaton visits x y → is_true v (emptied_bit next) ≡ eqb (length x.pending) 0 → Says
  neighbours-says neighbours e = record {
    moves = (moves-say design 0 next v x.before y.before x.valuation y.valuation sound bits.position later.position
        (state-sizes design automaton visits x is) (state-sizes design automaton visits y also)).1 (neighbours.before, neighbours.step.latches);
    owed = λ number below. owed-from number below
        (λ h. at-listed (λ n. IsTrue (met (delta_of automaton n) (letter_in design x) (is_listed y.owed))) x.owed neighbours.owed number h);
    put_off = λ number below. pending-from number below
        (λ h. at-listed (λ n. IsTrue (met (delta_of automaton n) (letter_in design x) (may_meet automaton y))) x.pending
        (neighbours.put_off (some-of x.pending number h)).met number h);
    emptied = emptied-from e;
    anew = λ number below. anew-from number below (λ empty accepting h.
        let same_lists = (neighbours.anew (eqb-true (length x.pending) 0 (sym e ∙ empty))).pending in
        ap (λ (list : List ℕ). is_listed list number) same_lists ∙ listed-filter (λ n. not (is_accepting automaton n)) y.owed number
        ∙ and_from (is_listed y.owed number) (not (is_accepting automaton number)) h (not_from_false (is_accepting automaton number) accepting));
    counts = by (cases_eq (length x.pending) 0);
    owed_support = λ number below. owed_asked-from number below
        (at-listed (λ n. IsTrue (is_asked automaton (letter_in design x) x.owed n)) y.owed neighbours.supported number);
    pending_support = λ number below. pending_asked-from number below
        (λ h full. at-listed (λ n. IsTrue (is_asked automaton (letter_in design x) x.pending n)) y.pending
        (neighbours.put_off (some-pending (sym e ∙ full))).supported number h);
  }
    where
      some-of : (numbers : List ℕ) (number : ℕ) → IsTrue (is_listed numbers number) → 0 < length numbers
      some-of [] number h = absurd (both_ways false refl h)
      some-of (first ∷ numbers) number h = omega arith

      some-pending : eqb (length x.pending) 0 ≡ false → 0 < length x.pending
      some-pending full = elim (cases_eq (length x.pending) 0) [
        | inl none ↦ absurd (both_ways (eqb (length x.pending) 0) full (eq-eqb (length x.pending) 0 none))
        | inr some ↦ omega (arith, some)
      ]

      by : (length x.pending ≡ 0) ⊎ (length x.pending ≡ 0 → ⊥) → (number : ℕ) → number < suc visits → IsTrue (value v (count_term design automaton next number))
      by (inl none) = count-from true (e ∙ eq-eqb (length x.pending) 0 none) (neighbours.anew none).count
      by (inr some) = count-from false (e ∙ ne_eqb (length x.pending) 0 some) (neighbours.put_off (omega (arith, some))).count

  pub neighbours-say : IsTrue (list_all (value v) (step_terms design automaton visits next)) → AreNeighbours design automaton visits x y
  neighbours-say h = says-neighbours (terms-say h)

  pub neighbours-from : AreNeighbours design automaton visits x y → is_true v (emptied_bit next) ≡ eqb (length x.pending) 0
      → IsTrue (list_all (value v) (step_terms design automaton visits next))
  neighbours-from neighbours e = say-terms (neighbours-says neighbours e)
