-- Merging keeps which words with a loop are accepted.
use Rattle.std.proofs.Common.{◌≡◌, ◌⊎◌, inl, inr, refl, sym, ap, ◌∙◌, subst, ℕ, zero, suc, ◌+◌, ◌*◌, ◌/◌, ◌%◌, ◌≤◌, ◌<◌, Bool as Truth, true, false, List, length, Option, None, Some, arith}
use Rattle.std.specs.Prelude.{◌↔◌, IsTrue, ◌&&◌, ◌==◌, nat_lt, is_some, if◌then◌else◌}
use Rattle.std.proofs.lemmas.Bool.{both_ways, or_cases, or_left, or_right, and_parts, and_from, ltb-true, ltb-false, lt-ltb, le-ltb, eq-eqb, cases_lt}
use Rattle.std.proofs.lemmas.Nat.{div-mul-add, mod-mul-add, mul-add-lt, mul-le}
use Rattle.psl_tree.specs.declared.letter.Letter.{Letter}
use Rattle.alternating_theory.specs.Laws.{NamesOf}
use Rattle.alternating_theory.specs.Merged.{fits, is_first, joined, merged_by}
use Rattle.alternating_theory.specs.Obligations.{Obligation, Automaton, obligation_at}
use Rattle.alternating_theory.specs.Positive.{met, owes}
use Rattle.alternating_theory.specs.Trimmed.{count_below}
use Rattle.alternating_theory.proofs.Merges.{new-below, joined-new, joined-met, owed-inside, new-start, joined-fewer}
use Rattle.alternating_theory.proofs.Reached.{same-number}
use Rattle.alternating_theory.proofs.Settled.{count-at_most}
use Rattle.alternating_theory.specs.Acceptance.{serves, IsRun, AcceptsAlong}
use Rattle.alternating_theory.proofs.Accepts.{some-of, is-some, count-strict}
use Rattle.alternating_theory.proofs.MetOwed.{met-grows}

-- the lower of two ranks, where there are any
abbrev least_of : Option ℕ → Option ℕ → Option ℕ
least_of None second = second
least_of (Some k) None = Some k
least_of (Some k) (Some j) = if nat_lt k j then Some k else Some j

-- it is one of them
least-one : (o p : Option ℕ) (k : ℕ) → least_of o p ≡ Some k → ((o ≡ Some k) ⊎ (p ≡ Some k))
least-one None p k e = inr e
least-one (Some i) None k e = inl e
least-one (Some i) (Some j) k e = at (nat_lt i j) e
  where
    at : (b : Truth) → (if b then Some i else Some j) ≡ Some k → ((Some i ≡ Some k) ⊎ (Some j ≡ Some k))
    at true e = inl e
    at false e = inr e

-- and at most each

least-left : (o p : Option ℕ) (k : ℕ) → o ≡ Some k → (j : ℕ) × (j ≤ k) × (least_of o p ≡ Some j)
least-left None p k e = absurd (both_ways false refl (ap (λ (q : Option ℕ). is_some q) e))
least-left (Some i) None k e = (k, omega arith, e)
least-left (Some i) (Some j) k e = at (nat_lt i j) refl
  where
    same : i ≡ k
    same = cc

    at : (b : Truth) → nat_lt i j ≡ b → (m : ℕ) × (m ≤ k) × ((if b then Some i else Some j) ≡ Some m)
    at true f = (i, omega (arith, same), refl)
    at false f = (j, omega (arith, same, ltb-false i j f), refl)

least-right : (o p : Option ℕ) (k : ℕ) → p ≡ Some k → (j : ℕ) × (j ≤ k) × (least_of o p ≡ Some j)
least-right None p k e = (k, omega arith, e)
least-right (Some i) None k e = absurd (both_ways false refl (ap (λ (q : Option ℕ). is_some q) e))
least-right (Some i) (Some j) k e = at (nat_lt i j) refl
  where
    same : j ≡ k
    same = cc

    at : (b : Truth) → nat_lt i j ≡ b → (m : ℕ) × (m ≤ k) × ((if b then Some i else Some j) ≡ Some m)
    at true f = (i, omega (arith, same, ltb-true i j f), refl)
    at false f = (j, omega (arith, same), refl)

module _ (a : Automaton) (class : ℕ → ℕ) (fit : IsTrue (fits a class)) (names : NamesOf a) (count : ℕ) (letter : ℕ → Letter) (next : ℕ → ℕ) (stays : (p : ℕ) → p < count → next p < count)
    (some : 0 < count) where
  abbrev os : List Obligation
  os = a.obligations

  abbrev look : ℕ → Obligation
  look = obligation_at a.obligations

  abbrev len : ℕ
  len = length a.obligations

  abbrev after : ℕ → Obligation
  after = obligation_at (joined a class).obligations

  abbrev fewer : ℕ
  fewer = length (joined a class).obligations

  abbrev new : ℕ → ℕ
  new n = count_below (class n) (is_first class)

  accepting-is : (q : ℕ) → q < len → (after (new q)).accepting ≡ (look q).accepting
  accepting-is q l = (joined-new a class fit names q l).accepting

  met-is : (q : ℕ) → q < len → (x : Letter) (f : ℕ → Truth) → met (after (new q)).delta x f ≡ met (look q).delta x (λ r. f (new r))
  met-is q l x f = joined-met a class fit names q l x f

  inside : (q r : ℕ) → q < len → IsTrue (owes (look q).delta r) → r < len
  inside q r l o = omega (arith, owed-inside a class fit names q r l o, names.start_last)

  start-inside : a.start < len
  start-inside = omega (arith, names.start_last)

  -- a run of the merged automaton gives one of the automaton

  module _ (entry : ℕ → ℕ → Option ℕ) (run : IsRun (joined a class) count letter next entry) where
    abbrev pulled : ℕ → ℕ → Option ℕ
    pulled p q = if nat_lt q len then entry p (new q) else None

    pulled-at : (p q : ℕ) → q < len → pulled p q ≡ entry p (new q)
    pulled-at p q l = ap (λ (b : Truth). if b then entry p (new q) else None) (lt-ltb q len l)

    pulled-some : (p q k : ℕ) → pulled p q ≡ Some k → (q < len) × (entry p (new q) ≡ Some k)
    pulled-some p q k e = at (nat_lt q len) refl e
      where
        at : (b : Truth) → nat_lt q len ≡ b → (if b then entry p (new q) else None) ≡ Some k → (q < len) × (entry p (new q) ≡ Some k)
        at true f g = (ltb-true q len f, g)
        at false f g = absurd (both_ways false refl (ap (λ (o : Option ℕ). is_some o) g))

    pulled-run : IsRun a count letter next pulled
    pulled-run = record {
      within = λ p q k e. (let u = pulled-some p q k e in let w = run.within p (new q) k u.1 in
          (w.0, u.0, omega (arith, w.2, mul-le count fewer count len (omega arith) (joined-fewer a class fit names))));
      begins = subst (λ (o : Option ℕ). IsTrue (is_some o)) (sym (pulled-at 0 a.start start-inside ∙ ap (λ i. entry 0 i) (new-start a class fit names))) run.begins;
      accepting = λ p q k e acc. (let u = pulled-some p q k e in
          met-grows (look q).delta (letter p) (λ r. is_some (entry (next p) (new r))) (λ r. is_some (pulled (next p) r))
          (λ r o v. subst (λ (i : Option ℕ). IsTrue (is_some i)) (sym (pulled-at (next p) r (inside q r u.0 o))) v)
          (sym (met-is q u.0 (letter p) (λ r. is_some (entry (next p) r))) ∙ run.accepting p (new q) k u.1 (accepting-is q u.0 ∙ acc)));
      others = λ p q k e acc. (let u = pulled-some p q k e in
          met-grows (look q).delta (letter p) (λ r. serves (entry (next p) (new r)) (after (new r)).accepting k) (λ r. serves (pulled (next p) r) (look r).accepting k)
          (λ r o v. subst (λ (i : Option ℕ). IsTrue (serves i (look r).accepting k)) (sym (pulled-at (next p) r (inside q r u.0 o)))
          (subst (λ (b : Truth). IsTrue (serves (entry (next p) (new r)) b k)) (accepting-is r (inside q r u.0 o)) v))
          (sym (met-is q u.0 (letter p) (λ r. serves (entry (next p) r) (after r).accepting k)) ∙ run.others p (new q) k u.1 (accepting-is q u.0 ∙ acc)));
    }

  -- a run of the automaton gives one of the merged automaton: of the entries that become one the lowest
  -- rank is kept, and the ranks are numbered anew

  module _ (entry : ℕ → ℕ → Option ℕ) (run : IsRun a count letter next entry) where
    -- the lowest rank of the entries at a place whose obligations, of so many, have this new number
    abbrev lowest : ℕ → ℕ → ℕ → Option ℕ
    lowest zero p i = None
    lowest (suc n) p i = if new n == i then least_of (entry p n) (lowest n p i) else lowest n p i

    lowest-one : (n p i k : ℕ) → lowest n p i ≡ Some k → (q : ℕ) × (q < n) × (new q ≡ i) × (entry p q ≡ Some k)
    lowest-one zero p i k e = absurd (both_ways false refl (ap (λ (o : Option ℕ). is_some o) e))
    lowest-one (suc n) p i k e = at (new n == i) refl e (λ f. lowest-one n p i k f)
      where
        wider : (q : ℕ) × (q < n) × (new q ≡ i) × (entry p q ≡ Some k) → (q : ℕ) × (q < suc n) × (new q ≡ i) × (entry p q ≡ Some k)
        wider u = (u.0, omega (arith, u.1), u.2, u.3)

        at : (b : Truth) → (new n == i) ≡ b → (if b then least_of (entry p n) (lowest n p i) else lowest n p i) ≡ Some k
            → (lowest n p i ≡ Some k → (q : ℕ) × (q < n) × (new q ≡ i) × (entry p q ≡ Some k)) → (q : ℕ) × (q < suc n) × (new q ≡ i) × (entry p q ≡ Some k)
        at false f g rec = wider (rec g)
        at true f g rec = elim (least-one (entry p n) (lowest n p i) k g) as (λ _. (q : ℕ) × (q < suc n) × (new q ≡ i) × (entry p q ≡ Some k)) [
          | inl x ↦ (n, omega arith, same-number (new n) i f, x)
          | inr x ↦ wider (rec x)
        ]

    lowest-least : (n p i q k : ℕ) → q < n → new q ≡ i → entry p q ≡ Some k → (j : ℕ) × (j ≤ k) × (lowest n p i ≡ Some j)
    lowest-least zero p i q k l e f = absurd (omega arith)
    lowest-least (suc n) p i q k l e f = at (new n == i) refl (cases_lt q n) (λ m. lowest-least n p i q k m e f)
      where
        same : n ≤ q → q ≡ n
        same m = omega arith

        at : (b : Truth) → (new n == i) ≡ b → ((q < n) ⊎ (n ≤ q)) → (q < n → (j : ℕ) × (j ≤ k) × (lowest n p i ≡ Some j))
            → (j : ℕ) × (j ≤ k) × ((if b then least_of (entry p n) (lowest n p i) else lowest n p i) ≡ Some j)
        at true g (inl m) rec =
            let u = rec m in let v = least-right (entry p n) (lowest n p i) u.0 u.2 in (v.0, omega (arith, u.1, v.1), v.2)
        at true g (inr m) rec = least-left (entry p n) (lowest n p i) k (ap (λ j. entry p j) (sym (same m)) ∙ f)
        at false g (inl m) rec = rec m
        at false g (inr m) rec = absurd (both_ways (new n == i) g (eq-eqb (new n) i (ap new (sym (same m)) ∙ e)))

    abbrev low : ℕ → ℕ → Option ℕ
    low p i = lowest len p i

    -- a rank that is below another
    abbrev has_less : Option ℕ → ℕ → Truth
    has_less None k = false
    has_less (Some j) k = nat_lt j k

    less-grows : (o : Option ℕ) (j k : ℕ) → j < k → IsTrue (has_less o j) → IsTrue (has_less o k)
    less-grows None j k l h = h
    less-grows (Some i) j k l h = lt-ltb i k (omega (arith, ltb-true i j h))

    abbrev counted : ℕ → ℕ → Truth
    counted k i = has_less (low (i / fewer) (i % fewer)) k

    -- how many pairs of a place and a number have a rank below this one
    abbrev renumber : ℕ → ℕ
    renumber k = count_below (count * fewer) (counted k)

    counted-at : (k p i : ℕ) → i < fewer → counted k (p * fewer + i) ≡ has_less (low p i) k
    counted-at k p i l = let e = div-mul-add p fewer i l in let f = mod-mul-add p fewer i l in rw (e, f) refl

    pair-below : (p i : ℕ) → p < count → i < fewer → p * fewer + i < count * fewer
    pair-below p i l m = grind (arith, mul-add-lt p fewer i count l m)

    self-less : (k : ℕ) → nat_lt k k ≡ false
    self-less k = le-ltb k k (omega arith)

    renumber-less : (p i j k : ℕ) → p < count → i < fewer → low p i ≡ Some j → j < k → renumber j < renumber k
    renumber-less p i j k l m e h =
        count-strict (count * fewer) (counted j) (counted k) (λ n v. less-grows (low (n / fewer) (n % fewer)) j k h v) (p * fewer + i) (pair-below p i l m)
        (counted-at k p i m ∙ ap (λ (o : Option ℕ). has_less o k) e ∙ lt-ltb j k h)
        (counted-at j p i m ∙ ap (λ (o : Option ℕ). has_less o j) e ∙ self-less j)

    renumber-below : (p i k : ℕ) → p < count → i < fewer → low p i ≡ Some k → renumber k < count * fewer
    renumber-below p i k l m e =
        let u = count-strict (count * fewer) (counted k) (λ n. true) (λ n v. refl) (p * fewer + i) (pair-below p i l m) refl
        (counted-at k p i m ∙ ap (λ (o : Option ℕ). has_less o k) e ∙ self-less k) in
        omega (arith, u, count-at_most (count * fewer) (λ n. true))

    abbrev again : Option ℕ → Option ℕ
    again None = None
    again (Some k) = Some (renumber k)

    abbrev pushed : ℕ → ℕ → Option ℕ
    pushed p i = if nat_lt p count && nat_lt i fewer then again (low p i) else None

    pushed-at : (p i : ℕ) → p < count → i < fewer → pushed p i ≡ again (low p i)
    pushed-at p i l m = ap (λ (b : Truth). if b then again (low p i) else None) (and_from (nat_lt p count) (nat_lt i fewer) (lt-ltb p count l) (lt-ltb i fewer m))

    again-some : (o : Option ℕ) (n : ℕ) → again o ≡ Some n → (k : ℕ) × (o ≡ Some k) × (n ≡ renumber k)
    again-some None n e = absurd (both_ways false refl (ap (λ (q : Option ℕ). is_some q) e))
    again-some (Some k) n e = (k, refl, (cc))

    pushed-some : (p i n : ℕ) → pushed p i ≡ Some n → (p < count) × (i < fewer) × ((k : ℕ) × (low p i ≡ Some k) × (n ≡ renumber k))
    pushed-some p i n e = at (nat_lt p count && nat_lt i fewer) refl e
      where
        at : (b : Truth) → (nat_lt p count && nat_lt i fewer) ≡ b → (if b then again (low p i) else None) ≡ Some n
            → (p < count) × (i < fewer) × ((k : ℕ) × (low p i ≡ Some k) × (n ≡ renumber k))
        at true f g = let parts = and_parts (nat_lt p count) (nat_lt i fewer) f in (ltb-true p count parts.0, ltb-true i fewer parts.1, again-some (low p i) n g)
        at false f g = absurd (both_ways false refl (ap (λ (o : Option ℕ). is_some o) g))

    -- where the automaton has an entry, the merged one has
    pushed-of : (p q k : ℕ) → p < count → q < len → entry p q ≡ Some k → (j : ℕ) × (j ≤ k) × (low p (new q) ≡ Some j) × (pushed p (new q) ≡ Some (renumber j))
    pushed-of p q k l m e =
        let u = lowest-least len p (new q) q k m refl e in
        (u.0, u.1, u.2, pushed-at p (new q) l (new-below a class fit names q m) ∙ ap again u.2)

    pushed-is : (p q : ℕ) → p < count → q < len → IsTrue (is_some (entry p q)) → IsTrue (is_some (pushed p (new q)))
    pushed-is p q l m v = let k = some-of (entry p q) v in let u = pushed-of p q k.0 l m k.1 in is-some (pushed p (new q)) (renumber u.0) u.3

    serves-of : (p q k : ℕ) → p < count → q < len → IsTrue (serves (entry p q) (look q).accepting k) → IsTrue (serves (pushed p (new q)) (after (new q)).accepting (renumber k))
    serves-of p q k l m v = at (entry p q) refl v
      where
        at : (o : Option ℕ) → entry p q ≡ o → IsTrue (serves o (look q).accepting k) → IsTrue (serves (pushed p (new q)) (after (new q)).accepting (renumber k))
        at None e v = absurd (both_ways false refl v)
        at (Some i) e v =
            let u = pushed-of p q i l m e in
            subst (λ (o : Option ℕ). IsTrue (serves o (after (new q)).accepting (renumber k))) (sym u.3)
            (elim (or_cases (look q).accepting (nat_lt i k) v) [
              | inl x ↦ or_left (after (new q)).accepting (nat_lt (renumber u.0) (renumber k)) (accepting-is q m ∙ x)
              | inr x ↦ or_right (after (new q)).accepting (nat_lt (renumber u.0) (renumber k))
                  (lt-ltb (renumber u.0) (renumber k) (renumber-less p (new q) u.0 k l (new-below a class fit names q m) u.2 (omega (arith, u.1, ltb-true i k x))))
            ])

    pushed-run : IsRun (joined a class) count letter next pushed
    pushed-run = record {
      within = λ p i n e. (let u = pushed-some p i n e in
          (u.0, u.1, subst (λ (j : ℕ). j < count * fewer) (sym u.2.2) (renumber-below p i u.2.0 u.0 u.1 u.2.1)));
      begins = subst (λ (i : ℕ). IsTrue (is_some (pushed 0 i))) (new-start a class fit names) (pushed-is 0 a.start some start-inside run.begins);
      accepting = λ p i n e acc. (let u = pushed-some p i n e in let q = lowest-one len p i u.2.0 u.2.1 in
          accepting-at p i q.0 u.2.0 u.0 q.1 q.2 q.3 acc);
      others = λ p i n e acc. (let u = pushed-some p i n e in let q = lowest-one len p i u.2.0 u.2.1 in
          subst (λ (j : ℕ). IsTrue (met (after i).delta (letter p) (λ r. serves (pushed (next p) r) (after r).accepting j))) (sym u.2.2)
          (others-at p i q.0 u.2.0 u.0 q.1 q.2 q.3 acc));
    }
      where
        accepting-at : (p i q k : ℕ) → p < count → q < len → new q ≡ i → entry p q ≡ Some k → (after i).accepting ≡ true
            → IsTrue (met (after i).delta (letter p) (λ r. is_some (pushed (next p) r)))
        accepting-at p i q k l m e f acc =
            subst (λ (j : ℕ). IsTrue (met (after j).delta (letter p) (λ r. is_some (pushed (next p) r)))) e
            (met-is q m (letter p) (λ r. is_some (pushed (next p) r))
            ∙ met-grows (look q).delta (letter p) (λ r. is_some (entry (next p) r)) (λ r. is_some (pushed (next p) (new r)))
            (λ r o v. pushed-is (next p) r (stays p l) (inside q r m o) v)
            (run.accepting p q k f (sym (accepting-is q m) ∙ ap (λ j. (after j).accepting) e ∙ acc)))

        others-at : (p i q k : ℕ) → p < count → q < len → new q ≡ i → entry p q ≡ Some k → (after i).accepting ≡ false
            → IsTrue (met (after i).delta (letter p) (λ r. serves (pushed (next p) r) (after r).accepting (renumber k)))
        others-at p i q k l m e f acc =
            subst (λ (j : ℕ). IsTrue (met (after j).delta (letter p) (λ r. serves (pushed (next p) r) (after r).accepting (renumber k)))) e
            (met-is q m (letter p) (λ r. serves (pushed (next p) r) (after r).accepting (renumber k))
            ∙ met-grows (look q).delta (letter p) (λ r. serves (entry (next p) r) (look r).accepting k) (λ r. serves (pushed (next p) (new r)) (after (new r)).accepting (renumber k))
            (λ r o v. serves-of (next p) r k (stays p l) (inside q r m o) v)
            (run.others p q k f (sym (accepting-is q m) ∙ ap (λ j. (after j).accepting) e ∙ acc)))

  joined-accepts : AcceptsAlong (joined a class) count letter next ↔ AcceptsAlong a count letter next
  joined-accepts = (λ h none. h (λ entry run. none (pulled entry run) (pulled-run entry run)), λ h none. h (λ entry run. none (pushed entry run) (pushed-run entry run)))

pub merged-accepts : (a : Automaton) → NamesOf a → (class : ℕ → ℕ) (count : ℕ) (letter : ℕ → Letter) (next : ℕ → ℕ) → ((p : ℕ) → p < count → next p < count) → 0 < count
    → AcceptsAlong (merged_by class a) count letter next ↔ AcceptsAlong a count letter next
merged-accepts a names class count letter next stays some = at (fits a class) refl
  where
    at : (b : Truth) → fits a class ≡ b → AcceptsAlong (if b then joined a class else a) count letter next ↔ AcceptsAlong a count letter next
    at true e = joined-accepts a class e names count letter next stays some
    at false e = (λ h. h, λ h. h)
