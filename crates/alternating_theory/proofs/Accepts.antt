-- An automaton accepts along a course exactly where the score of its start is true at the first place.
use Rattle.std.proofs.Common.{◌≡◌, ◌⊎◌, inl, inr, refl, sym, ap, ◌∙◌, subst, ℕ, zero, suc, ◌+◌, ◌*◌, ◌/◌, ◌%◌, ◌≤◌, ◌<◌, Bool as Truth, true, false, length, Option, None, Some, arith}
use Rattle.std.specs.Prelude.{◌↔◌, IsTrue, not, ◌&&◌, ◌||◌, ◌==◌, nat_lt, is_some, if◌then◌else◌}
use Rattle.std.proofs.lemmas.Bool.{both_ways, not-false, true_from_ne_false, or_cases, or_left, or_right, or_parts, and_parts, and_from, ltb-true, lt-ltb, le-ltb, eq-eqb, cases_Bool}
use Rattle.std.proofs.lemmas.Nat.{div-mul-add, mod-mul-add, mul-add-lt}
use Rattle.alternating_theory.specs.Courses.{Course}
use Rattle.alternating_theory.specs.Obligations.{Obligation, Automaton, obligation_at}
use Rattle.alternating_theory.specs.Positive.{met, owes}
use Rattle.alternating_theory.specs.Trimmed.{count_below}
use Rattle.alternating_theory.proofs.Reached.{same-number, owed-within}
use Rattle.alternating_theory.proofs.Settled.{same-or_more, count-at_most}
use Rattle.alternating_theory.specs.Acceptance.{serves, IsRun, AcceptsAlong}
use Rattle.alternating_theory.proofs.MetOwed.{met-grows, met-gap}
use Rattle.alternating_theory.proofs.Scores.{lower, Scored}

pub some-of : (o : Option ℕ) → IsTrue (is_some o) → (k : ℕ) × (o ≡ Some k)
some-of None h = absurd (both_ways false refl h)
some-of (Some k) h = (k, refl)

pub is-some : (o : Option ℕ) (k : ℕ) → o ≡ Some k → IsTrue (is_some o)
is-some o k e = ap (λ (p : Option ℕ). is_some p) e

-- one number more passes
pub count-strict : (n : ℕ) (f g : ℕ → Truth) → ((i : ℕ) → IsTrue (f i) → IsTrue (g i)) → (i : ℕ) → i < n → IsTrue (g i) → f i ≡ false → count_below n f < count_below n g
count-strict n f g more i l h e = elim (same-or_more n f g more) [
  | inl s ↦ absurd (both_ways (f i) e (sym (s.0 i l) ∙ h))
  | inr s ↦ s
]

module _ (c : Course) (n top bottom : ℕ) (a : Automaton) (s : Scored c n top bottom 0 (length a.obligations) (obligation_at a.obligations))
    (m : ℕ) (few : m ≤ n) (stays : (p : ℕ) → p < m → c.next p < m) (some : 0 < m) (first : a.start < length a.obligations) where
  abbrev look : ℕ → Obligation
  look = obligation_at a.obligations

  abbrev len : ℕ
  len = length a.obligations

  -- entries have no false value

  module _ (entry : ℕ → ℕ → Option ℕ) (run : IsRun a m c.letter c.next entry) where
    -- the rank that falls within a level
    abbrev measure : ℕ → ℕ → ℕ → ℕ
    measure p q k = if (look q).accepting then s.rank p q else k

    abbrev NoneBelow : ℕ → Type 0
    NoneBelow l = (p q k : ℕ) → s.level q < l → entry p q ≡ Some k → s.value p q ≡ false → ⊥

    abbrev NoneSooner : ℕ → ℕ → ℕ → ℕ → Type 0
    NoneSooner p q k d = (r j : ℕ) → s.level r ≡ s.level q → (look r).accepting ≡ (look q).accepting → measure (c.next p) r j < d
        → entry (c.next p) r ≡ Some j → s.value (c.next p) r ≡ false → ⊥

    measure-is : (p q k : ℕ) (b : Truth) → (look q).accepting ≡ b → measure p q k ≡ (if b then s.rank p q else k)
    measure-is p q k b e = ap (λ (t : Truth). if t then s.rank p q else k) e

    lower-rank : (p q next r : ℕ) → s.level r ≡ s.level q → IsTrue (lower s.level s.rank p q next r) → s.rank next r < s.rank p q
    lower-rank p q next r e h = elim (or_cases (nat_lt (s.level r) (s.level q)) (nat_lt (s.rank next r) (s.rank p q)) h) [
      | inl k ↦ absurd (omega (arith, ltb-true (s.level r) (s.level q) k))
      | inr k ↦ ltb-true (s.rank next r) (s.rank p q) k
    ]

    when-accepting : (p q k d : ℕ) → NoneBelow (s.level q) → (measure p q k ≤ d → NoneSooner p q k d) → measure p q k ≤ d
        → (look q).accepting ≡ true → entry p q ≡ Some k → s.value p q ≡ false → ⊥
    when-accepting p q k d below sooner ms acc e v =
        let w = run.within p q k e in
        let g = met-gap (look q).delta (c.letter p) (λ r. is_some (entry (c.next p) r)) (λ r. s.value (c.next p) r || not (lower s.level s.rank p q (c.next p) r))
        (run.accepting p q k e acc) (s.loses p q (omega (arith, w.0)) (omega arith) w.1 acc v) in
        let o = or_parts (s.value (c.next p) g.0) (not (lower s.level s.rank p q (c.next p) g.0)) g.3 in
        let j = some-of (entry (c.next p) g.0) g.2 in
        elim (s.falls q g.0 (omega arith) w.1 g.1) [
          | inl l ↦ below (c.next p) g.0 j.0 l j.1 o.0
          | inr l ↦ sooner ms g.0 j.0 l.0 l.1 (let a = measure-is (c.next p) g.0 j.0 true (l.1 ∙ acc) in let b = measure-is p q k true acc in
              omega (arith, a, b, ms, lower-rank p q (c.next p) g.0 l.0 (not-false (lower s.level s.rank p q (c.next p) g.0) o.1))) j.1 o.0
        ]

    serving : (o : Option ℕ) (b : Truth) (k j : ℕ) → o ≡ Some j → b ≡ false → IsTrue (serves o b k) → j < k
    serving o b k j e f h = at (subst (λ (t : Truth). IsTrue (serves (Some j) t k)) f (subst (λ (p : Option ℕ). IsTrue (serves p b k)) e h))
      where
        at : IsTrue (false || nat_lt j k) → j < k
        at h = ltb-true j k h

    serves-some : (o : Option ℕ) (b : Truth) (k : ℕ) → IsTrue (serves o b k) → IsTrue (is_some o)
    serves-some None b k h = h
    serves-some (Some j) b k h = refl

    when-not : (p q k d : ℕ) → NoneBelow (s.level q) → (measure p q k ≤ d → NoneSooner p q k d) → measure p q k ≤ d
        → (look q).accepting ≡ false → entry p q ≡ Some k → s.value p q ≡ false → ⊥
    when-not p q k d below sooner ms acc e v =
        let w = run.within p q k e in
        let g = met-gap (look q).delta (c.letter p) (λ r. serves (entry (c.next p) r) (look r).accepting k) (λ r. s.value (c.next p) r)
        (run.others p q k e acc) (sym (s.step p q (omega (arith, w.0)) (omega arith) w.1) ∙ v) in
        let j = some-of (entry (c.next p) g.0) (serves-some (entry (c.next p) g.0) (look g.0).accepting k g.2) in
        elim (s.falls q g.0 (omega arith) w.1 g.1) [
          | inl l ↦ below (c.next p) g.0 j.0 l j.1 g.3
          | inr l ↦ sooner ms g.0 j.0 l.0 l.1 (let a = measure-is (c.next p) g.0 j.0 false (l.1 ∙ acc) in let b = measure-is p q k false acc in
              omega (arith, a, b, ms, serving (entry (c.next p) g.0) (look g.0).accepting k j.0 j.1 (l.1 ∙ acc) g.2)) j.1 g.3
        ]

    within-level : (l : ℕ) → NoneBelow l → (d p q k : ℕ) → s.level q < suc l → measure p q k < d → entry p q ≡ Some k → s.value p q ≡ false → ⊥
    within-level l rec zero p q k lv ms e v = omega arith
    within-level l rec (suc d) p q k lv ms e v =
        let below : NoneBelow (s.level q) = λ p' r j h. rec p' r j (omega arith) in
        let sooner : measure p q k ≤ d → NoneSooner p q k d = λ _ r j same acc h. within-level l rec d (c.next p) r j (omega arith) h in
        elim (cases_Bool (look q).accepting) [
          | inl t ↦ when-accepting p q k d below sooner (omega arith) t e v
          | inr t ↦ when-not p q k d below sooner (omega arith) t e v
        ]

    none-below : (l : ℕ) → (p q k : ℕ) → s.level q < l → entry p q ≡ Some k → s.value p q ≡ false → ⊥
    none-below zero p q k lv e v = omega arith
    none-below (suc l) p q k lv e v = within-level l (λ p' r j h. none-below l p' r j h) (suc (measure p q k)) p q k lv (omega arith) e v

    no-run : s.value 0 a.start ≡ false → ⊥
    no-run v = let k = some-of (entry 0 a.start) run.begins in none-below (suc (s.level a.start)) 0 a.start k.0 (omega arith) k.1 v

  accepts-there : AcceptsAlong a m c.letter c.next → IsTrue (s.value 0 a.start)
  accepts-there h = true_from_ne_false (s.value 0 a.start) (λ v. h (λ entry run. no-run entry run v))

  -- true values are entries

  -- a place and a number come before others: the level is lower, or it is the same and the rank is lower
  abbrev sooner : ℕ → ℕ → ℕ → ℕ → Truth
  sooner p q p' r = nat_lt (s.level r) (s.level q) || (s.level r == s.level q && nat_lt (s.rank p' r) (s.rank p q))

  sooner-there : (p q p' r : ℕ) → IsTrue (sooner p q p' r) → (s.level r < s.level q) ⊎ ((s.level r ≡ s.level q) × (s.rank p' r < s.rank p q))
  sooner-there p q p' r h = elim (or_cases (nat_lt (s.level r) (s.level q)) (s.level r == s.level q && nat_lt (s.rank p' r) (s.rank p q)) h)
      as (λ _. (s.level r < s.level q) ⊎ ((s.level r ≡ s.level q) × (s.rank p' r < s.rank p q))) [
        | inl k ↦ inl (ltb-true (s.level r) (s.level q) k)
        | inr k ↦ (let parts = and_parts (s.level r == s.level q) (nat_lt (s.rank p' r) (s.rank p q)) k in
            inr (same-number (s.level r) (s.level q) parts.0, ltb-true (s.rank p' r) (s.rank p q) parts.1))
      ]

  sooner-back : (p q p' r : ℕ) → (s.level r < s.level q) ⊎ ((s.level r ≡ s.level q) × (s.rank p' r < s.rank p q)) → IsTrue (sooner p q p' r)
  sooner-back p q p' r (inl k) = or_left (nat_lt (s.level r) (s.level q)) (s.level r == s.level q && nat_lt (s.rank p' r) (s.rank p q)) (lt-ltb (s.level r) (s.level q) k)
  sooner-back p q p' r (inr k) = or_right (nat_lt (s.level r) (s.level q)) (s.level r == s.level q && nat_lt (s.rank p' r) (s.rank p q))
      (and_from (s.level r == s.level q) (nat_lt (s.rank p' r) (s.rank p q)) (eq-eqb (s.level r) (s.level q) k.0) (lt-ltb (s.rank p' r) (s.rank p q) k.1))

  sooner-self : (p q : ℕ) → sooner p q p q ≡ false
  sooner-self p q =
      let e = le-ltb (s.level q) (s.level q) (omega arith) in let f = le-ltb (s.rank p q) (s.rank p q) (omega arith) in rw (e, f) (last (s.level q == s.level q))
    where
      last : (t : Truth) → (t && false) ≡ false
      last true = refl
      last false = refl

  sooner-trans : (p q p' r p'' t : ℕ) → IsTrue (sooner p q p' r) → IsTrue (sooner p' r p'' t) → IsTrue (sooner p q p'' t)
  sooner-trans p q p' r p'' t h k = sooner-back p q p'' t (at (sooner-there p q p' r h) (sooner-there p' r p'' t k))
    where
      at : (s.level r < s.level q) ⊎ ((s.level r ≡ s.level q) × (s.rank p' r < s.rank p q)) → (s.level t < s.level r) ⊎ ((s.level t ≡ s.level r) × (s.rank p'' t < s.rank p' r))
          → (s.level t < s.level q) ⊎ ((s.level t ≡ s.level q) × (s.rank p'' t < s.rank p q))
      at (inl u) (inl v) = inl (omega arith)
      at (inl u) (inr v) = inl (omega (arith, v.0))
      at (inr u) (inl v) = inl (omega (arith, u.0))
      at (inr u) (inr v) = inr (omega (arith, u.0, v.0), omega (arith, u.1, v.1))

  -- how many pairs of a place and a number come before this one
  abbrev before : ℕ → ℕ → ℕ → Truth
  before p q i = sooner p q (i / len) (i % len)

  abbrev number : ℕ → ℕ → ℕ
  number p q = count_below (m * len) (before p q)

  at-pair : (p q p' r : ℕ) → r < len → before p q (p' * len + r) ≡ sooner p q p' r
  at-pair p q p' r l = let e = div-mul-add p' len r l in let f = mod-mul-add p' len r l in rw (e, f) refl

  pair-below : (p q : ℕ) → p < m → q < len → p * len + q < m * len
  pair-below p q l h = grind (arith, mul-add-lt p len q m l h)

  number-less : (p q p' r : ℕ) → p' < m → r < len → IsTrue (sooner p q p' r) → number p' r < number p q
  number-less p q p' r l h e =
      count-strict (m * len) (before p' r) (before p q) (λ i k. sooner-trans p q p' r (i / len) (i % len) e k)
      (p' * len + r) (pair-below p' r l h) (at-pair p q p' r h ∙ e) (at-pair p' r p' r h ∙ sooner-self p' r)

  number-below : (p q : ℕ) → p < m → q < len → number p q < m * len
  number-below p q l h =
      let e = count-strict (m * len) (before p q) (λ i. true) (λ i k. refl) (p * len + q) (pair-below p q l h) refl (at-pair p q p q h ∙ sooner-self p q) in
      omega (arith, e, count-at_most (m * len) (λ i. true))

  abbrev there : ℕ → ℕ → Truth
  there p q = (nat_lt p m && nat_lt q len) && s.value p q

  abbrev entries : ℕ → ℕ → Option ℕ
  entries p q = if there p q then Some (number p q) else None

  entry-is : (p q : ℕ) → p < m → q < len → IsTrue (s.value p q) → entries p q ≡ Some (number p q)
  entry-is p q l h v = ap (λ (t : Truth). if t then Some (number p q) else None)
      (and_from (nat_lt p m && nat_lt q len) (s.value p q) (and_from (nat_lt p m) (nat_lt q len) (lt-ltb p m l) (lt-ltb q len h)) v)

  entry-true : (p q k : ℕ) → entries p q ≡ Some k → (p < m) × (q < len) × IsTrue (s.value p q) × (k ≡ number p q)
  entry-true p q k e = at (there p q) refl e
    where
      at : (t : Truth) → there p q ≡ t → (if t then Some (number p q) else None) ≡ Some k → (p < m) × (q < len) × IsTrue (s.value p q) × (k ≡ number p q)
      at true f g =
          let a = and_parts (nat_lt p m && nat_lt q len) (s.value p q) f in
          let b = and_parts (nat_lt p m) (nat_lt q len) a.0 in
          (ltb-true p m b.0, ltb-true q len b.1, a.1, (cc))
      at false f g = absurd (cc)

  serves-lower : (p q r : ℕ) → p < m → q < len → r < len → (look q).accepting ≡ false → IsTrue (owes (look q).delta r)
      → IsTrue (s.value (c.next p) r && lower s.level s.rank p q (c.next p) r) → IsTrue (serves (entries (c.next p) r) (look r).accepting (number p q))
  serves-lower p q r l h k acc o v =
      let parts = and_parts (s.value (c.next p) r) (lower s.level s.rank p q (c.next p) r) v in
      subst (λ (e : Option ℕ). IsTrue (serves e (look r).accepting (number p q))) (sym (entry-is (c.next p) r (stays p l) k parts.0))
      (or_right (look r).accepting (nat_lt (number (c.next p) r) (number p q))
      (lt-ltb (number (c.next p) r) (number p q) (number-less p q (c.next p) r (stays p l) k (sooner-back p q (c.next p) r (at (s.falls q r (omega arith) h o) parts.1)))))
    where
      at : (s.level r < s.level q) ⊎ ((s.level r ≡ s.level q) × ((look r).accepting ≡ (look q).accepting)) → IsTrue (lower s.level s.rank p q (c.next p) r)
          → (s.level r < s.level q) ⊎ ((s.level r ≡ s.level q) × (s.rank (c.next p) r < s.rank p q))
      at (inl u) w = inl u
      at (inr u) w = elim (or_cases (nat_lt (s.level r) (s.level q)) (nat_lt (s.rank (c.next p) r) (s.rank p q)) w)
          as (λ _. (s.level r < s.level q) ⊎ ((s.level r ≡ s.level q) × (s.rank (c.next p) r < s.rank p q))) [
            | inl x ↦ inl (ltb-true (s.level r) (s.level q) x)
            | inr x ↦ inr (u.0, ltb-true (s.rank (c.next p) r) (s.rank p q) x)
          ]

  run-of : IsTrue (s.value 0 a.start) → IsRun a m c.letter c.next entries
  run-of v = record {
    within = λ p q k e. (let t = entry-true p q k e in (t.0, t.1, subst (λ (i : ℕ). i < m * len) (sym t.3) (number-below p q t.0 t.1)));
    begins = is-some (entries 0 a.start) (number 0 a.start) (entry-is 0 a.start some first v);
    accepting = λ p q k e acc. (let t = entry-true p q k e in
        met-grows (look q).delta (c.letter p) (λ r. s.value (c.next p) r) (λ r. is_some (entries (c.next p) r))
        (λ r o w. is-some (entries (c.next p) r) (number (c.next p) r)
        (entry-is (c.next p) r (stays p t.0) (owed-within 0 len (look q).delta (s.within q (omega arith) t.1) r o).1 w))
        (sym (s.step p q (omega (arith, t.0)) (omega arith) t.1) ∙ t.2));
    others = λ p q k e acc. (let t = entry-true p q k e in
        subst (λ (i : ℕ). IsTrue (met (look q).delta (c.letter p) (λ r. serves (entries (c.next p) r) (look r).accepting i))) (sym t.3)
        (met-grows (look q).delta (c.letter p) (λ r. s.value (c.next p) r && lower s.level s.rank p q (c.next p) r) (λ r. serves (entries (c.next p) r) (look r).accepting (number p q))
        (λ r o w. serves-lower p q r t.0 t.1 (owed-within 0 len (look q).delta (s.within q (omega arith) t.1) r o).1 acc o w)
        (s.wins p q (omega (arith, t.0)) (omega arith) t.1 acc t.2)));
  }

  pub accepts-scores : AcceptsAlong a m c.letter c.next ↔ IsTrue (s.value 0 a.start)
  accepts-scores = (accepts-there, λ v none. none entries (run-of v))
