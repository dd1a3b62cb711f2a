-- Numbers that fall only where the loop begins again, and ranks that fall from place to place.
use Rattle.std.proofs.Common.{◌≡◌, ◌⊎◌, inl, inr, refl, sym, ap, ◌∙◌, subst, ℕ, suc, ◌+◌, ◌-◌, ◌*◌, ◌/◌, ◌%◌, ◌≤◌, ◌<◌, Bool as Truth, true, false, length, Option, None, Some, arith}
use Rattle.std.specs.Prelude.{IsTrue, ◌&&◌, ◌||◌, ◌==◌, nat_lt, nat_le, is_some, if◌then◌else◌}
use Rattle.std.proofs.lemmas.Bool.{or_cases, or_left, or_right, and_parts, and_from, ltb-true, leb-true, lt-ltb, le-ltb, le-leb, eq-eqb, ne_eqb, cases_Bool, cases_lt}
use Rattle.std.proofs.lemmas.Nat.{div-mul-add, mod-mul-add, mul-add-lt}
use Rattle.psl_tree.specs.declared.letter.Letter.{Letter}
use Rattle.psl_tree.specs.declared.letter.Word.{Word}
use Rattle.alternating_theory.specs.Courses.{letter_at, next_place, places}
use Rattle.alternating_theory.specs.Obligations.{Obligation, Automaton, obligation_at}
use Rattle.alternating_theory.specs.Positive.{met, owes}
use Rattle.alternating_theory.specs.Trimmed.{count_below}
use Rattle.alternating_theory.proofs.Reached.{owed-within}
use Rattle.alternating_theory.proofs.Settled.{same-or_more, count-at_most}
use Rattle.alternating_theory.specs.Acceptance as acceptance
use Rattle.alternating_theory.specs.Acceptance.{IsRun, AcceptsAlong, Accepts}
use Rattle.alternating_theory.proofs.Accepts.{count-strict, some-of, is-some}
use Rattle.alternating_theory.proofs.MetOwed.{met-grows}
use Rattle.run_terms.specs.Automata.{IsSound}
use Rattle.bounded_theory.specs.Numbers.{place_after, is_kept, serves, IsSearched, AreSmall}

-- no fewer numbers pass a test that passes more
count-more : (n : ℕ) (f g : ℕ → Truth) → ((i : ℕ) → IsTrue (f i) → IsTrue (g i)) → count_below n f ≤ count_below n g
count-more n f g more = elim (same-or_more n f g more) [ inl s ↦ s.1 | inr s ↦ omega (arith, s) ]

-- the place after another, in both forms
pub after-last : (last again : ℕ) → place_after last again last ≡ again
after-last last again = rw (eq-eqb last last refl) refl

pub after-other : (last again place : ℕ) → place < last → place_after last again place ≡ suc place
after-other last again place l = rw (ne_eqb place last (λ e. omega arith)) refl

pub after-below : (last again place : ℕ) → again ≤ last → place ≤ last → place_after last again place ≤ last
after-below last again place few l = elim (cases_lt place last) [
  | inl k ↦ rw (after-other last again place k) k
  | inr k ↦ let e : place ≡ last = omega arith in rw (e, after-last last again) few
]

pub next-after : (word : Word) (last place : ℕ) → 0 < length word.looped → places word ≡ suc last → place ≤ last
    → next_place word place ≡ place_after last (length word.stem) place
next-after word last place some e l = elim (cases_lt place last) [
  | inl k ↦ inside k
  | inr k ↦ at-end (omega arith)
]
  where
    inside : place < last → next_place word place ≡ place_after last (length word.stem) place
    inside k = let a = lt-ltb (suc place) (places word) (omega arith) in
        rw a (sym (after-other last (length word.stem) place k))

    at-end : place ≡ last → next_place word place ≡ place_after last (length word.stem) place
    at-end k =
        let a = le-ltb (suc place) (places word) (omega arith) in
        let b = eq-eqb (suc place) (places word) (omega arith) in
        let c = eq-eqb place last k in rw (a, b, c) refl

module _ (a : Automaton) (sound : IsSound a) (last again : ℕ) (few : again ≤ last) (letter : ℕ → Letter) where
  abbrev look : ℕ → Obligation
  look = obligation_at a.obligations

  abbrev len : ℕ
  len = length a.obligations

  abbrev after : ℕ → ℕ
  after = place_after last again

  -- from numbers to ranks

  module _ (owed : ℕ → ℕ → Truth) (number : ℕ → ℕ → ℕ) (s : IsSearched a last again letter owed number) where
    -- falls at each step to what is served by a number
    abbrev height : ℕ → ℕ → ℕ
    height p q = number p q * suc last + (last - p)

    abbrev before : ℕ → ℕ → ℕ → Truth
    before p q i = nat_lt (height (i / len) (i % len)) (height p q)

    abbrev rank : ℕ → ℕ → ℕ
    rank p q = count_below (suc last * len) (before p q)

    falls-inside : (p q r : ℕ) → p < last → number (suc p) r ≤ number p q → height (suc p) r < height p q
    falls-inside p q r l k = grind arith

    falls-at_last : (q r : ℕ) → number again r < number last q → height again r < height last q
    falls-at_last q r k = grind arith

    falls : (p q r : ℕ) → p ≤ last → IsTrue (is_kept (p == last) (number p q) (number (after p) r)) → height (after p) r < height p q
    falls p q r l h = elim (cases_lt p last) [
      | inl k ↦ inside k (subst (λ (t : Truth). IsTrue (is_kept t (number p q) (number (after p) r))) (ne_eqb p last (λ e. omega arith)) h)
      | inr k ↦ at-end (omega arith) (subst (λ (t : Truth). IsTrue (is_kept t (number p q) (number (after p) r))) (eq-eqb p last (omega arith)) h)
    ]
      where
        inside : p < last → IsTrue (nat_le (number (after p) r) (number p q)) → height (after p) r < height p q
        inside k = rw (after-other last again p k) (λ g. falls-inside p q r k (leb-true (number (suc p) r) (number p q) g))

        at-end : p ≡ last → IsTrue (nat_lt (number (after p) r) (number p q)) → height (after p) r < height p q
        at-end e = rw (e, after-last last again) (λ g. falls-at_last q r (ltb-true (number again r) (number last q) g))

    at-pair : (p q p' r : ℕ) → r < len → before p q (p' * len + r) ≡ nat_lt (height p' r) (height p q)
    at-pair p q p' r l = let e = div-mul-add p' len r l in let f = mod-mul-add p' len r l in rw (e, f) refl

    pair-below : (p q : ℕ) → p ≤ last → q < len → p * len + q < suc last * len
    pair-below p q l h = let e = mul-add-lt p len q (suc last) (omega arith) h in omega (arith, e)

    rank-falls : (p q p' r : ℕ) → p' ≤ last → r < len → height p' r < height p q → rank p' r < rank p q
    rank-falls p q p' r l h k =
        count-strict (suc last * len) (before p' r) (before p q)
        (λ i g. lt-ltb (height (i / len) (i % len)) (height p q) (omega (arith, ltb-true (height (i / len) (i % len)) (height p' r) g)))
        (p' * len + r) (pair-below p' r l h)
        (at-pair p q p' r h ∙ lt-ltb (height p' r) (height p q) k)
        (at-pair p' r p' r h ∙ le-ltb (height p' r) (height p' r) (omega arith))

    rank-below : (p q : ℕ) → p ≤ last → q < len → rank p q < suc last * len
    rank-below p q l h =
        let e = count-strict (suc last * len) (before p q) (λ i. true) (λ i k. refl) (p * len + q) (pair-below p q l h) refl
        (at-pair p q p q h ∙ le-ltb (height p q) (height p q) (omega arith)) in
        omega (arith, e, count-at_most (suc last * len) (λ i. true))

    abbrev there : ℕ → ℕ → Truth
    there p q = (nat_lt p (suc last) && nat_lt q len) && owed p q

    abbrev entries : ℕ → ℕ → Option ℕ
    entries p q = if there p q then Some (rank p q) else None

    entry-is : (p q : ℕ) → p ≤ last → q < len → IsTrue (owed p q) → entries p q ≡ Some (rank p q)
    entry-is p q l h v = ap (λ (t : Truth). if t then Some (rank p q) else None)
        (and_from (nat_lt p (suc last) && nat_lt q len) (owed p q)
        (and_from (nat_lt p (suc last)) (nat_lt q len) (lt-ltb p (suc last) (omega arith)) (lt-ltb q len h)) v)

    entry-true : (p q k : ℕ) → entries p q ≡ Some k → (p < suc last) × (q < len) × IsTrue (owed p q) × (k ≡ rank p q)
    entry-true p q k e = at (there p q) refl e
      where
        at : (t : Truth) → there p q ≡ t → (if t then Some (rank p q) else None) ≡ Some k
            → (p < suc last) × (q < len) × IsTrue (owed p q) × (k ≡ rank p q)
        at true f g =
            let x = and_parts (nat_lt p (suc last) && nat_lt q len) (owed p q) f in
            let y = and_parts (nat_lt p (suc last)) (nat_lt q len) x.0 in
            (ltb-true p (suc last) y.0, ltb-true q len y.1, x.1, (cc))
        at false f g = absurd (cc)

    -- what is asked of an entry, by what it owes
    asked : (p q r : ℕ) → p ≤ last → q < len → IsTrue (owes (look q).delta r)
        → IsTrue (owed (after p) r && serves a (p == last) q (number p q) r (number (after p) r))
        → (entries (after p) r ≡ Some (rank (after p) r))
        × (((IsTrue ((look q).accepting || (look r).accepting)) ⊎ (rank (after p) r < rank p q)))
    asked p q r l h o v =
        let parts = and_parts (owed (after p) r) (serves a (p == last) q (number p q) r (number (after p) r)) v in
        let below = after-below last again p few l in
        let small = (owed-within 0 len (look q).delta (sound.owed q h) r o).1 in (
          entry-is (after p) r below small parts.0,
          (elim (or_cases ((look q).accepting || (look r).accepting) (is_kept (p == last) (number p q) (number (after p) r)) parts.1)
              as (λ _. (IsTrue ((look q).accepting || (look r).accepting)) ⊎ (rank (after p) r < rank p q)) [
                | inl k ↦ inl k
                | inr k ↦ inr (rank-falls p q (after p) r below small (falls p q r l k))
              ]),
        )

    served : (o : Option ℕ) (b : Truth) (k j : ℕ) → o ≡ Some j → IsTrue b ⊎ (j < k) → IsTrue (acceptance.serves o b k)
    served o b k j e (inl x) = subst (λ (p : Option ℕ). IsTrue (acceptance.serves p b k)) (sym e) (or_left b (nat_lt j k) x)
    served o b k j e (inr x) = subst (λ (p : Option ℕ). IsTrue (acceptance.serves p b k)) (sym e) (or_right b (nat_lt j k) (lt-ltb j k x))

    second : (b c : Truth) → b ≡ false → IsTrue (b || c) → IsTrue c
    second b c e h = subst (λ (t : Truth). IsTrue (t || c)) e h

    run-of : IsRun a (suc last) letter after entries
    run-of = record {
      within = λ p q k e. (let t = entry-true p q k e in
          (t.0, t.1, subst (λ (i : ℕ). i < suc last * len) (sym t.3) (rank-below p q (omega (arith, t.0)) t.1)));
      begins = is-some (entries 0 a.start) (rank 0 a.start) (entry-is 0 a.start (omega arith) sound.start s.begins);
      accepting = λ p q k e acc. (let t = entry-true p q k e in let l : p ≤ last = omega (arith, t.0) in
          met-grows (look q).delta (letter p)
          (λ r. owed (after p) r && serves a (p == last) q (number p q) r (number (after p) r)) (λ r. is_some (entries (after p) r))
          (λ r o w. is-some (entries (after p) r) (rank (after p) r) (asked p q r l t.1 o w).0)
          (s.meets p q l t.1 t.2));
      others = λ p q k e acc. (let t = entry-true p q k e in let l : p ≤ last = omega (arith, t.0) in
          subst (λ (i : ℕ). IsTrue (met (look q).delta (letter p) (λ r. acceptance.serves (entries (after p) r) (look r).accepting i))) (sym t.3)
          (met-grows (look q).delta (letter p)
          (λ r. owed (after p) r && serves a (p == last) q (number p q) r (number (after p) r))
          (λ r. acceptance.serves (entries (after p) r) (look r).accepting (rank p q))
          (λ r o w. let both = asked p q r l t.1 o w in
          served (entries (after p) r) (look r).accepting (rank p q) (rank (after p) r) both.0
          (elim both.1 as (λ _. IsTrue (look r).accepting ⊎ (rank (after p) r < rank p q)) [
            | inl x ↦ inl (second (look q).accepting (look r).accepting acc x)
            | inr x ↦ inr x
          ]))
          (s.meets p q l t.1 t.2)));
    }

  -- from ranks to numbers

  module _ (entry : ℕ → ℕ → Option ℕ) (run : IsRun a (suc last) letter after entry) where
    abbrev rank_in : Option ℕ → ℕ
    rank_in None = 0
    rank_in (Some k) = k

    abbrev is_below : Option ℕ → ℕ → Truth
    is_below None bound = false
    is_below (Some k) bound = nat_lt k bound

    below-more : (o : Option ℕ) (k j : ℕ) → k ≤ j → IsTrue (is_below o k) → IsTrue (is_below o j)
    below-more None k j l h = h
    below-more (Some i) k j l h = lt-ltb i j (omega (arith, ltb-true i k h))

    -- how many obligations have an entry of lower rank where the loop begins again
    abbrev number_of : ℕ → ℕ → ℕ
    number_of p q = count_below len (λ r. is_below (entry again r) (rank_in (entry p q)))

    abbrev is_owed : ℕ → ℕ → Truth
    is_owed p q = is_some (entry p q)

    number-more : (k j : ℕ) → k ≤ j → count_below len (λ r. is_below (entry again r) k) ≤ count_below len (λ r. is_below (entry again r) j)
    number-more k j l = count-more len (λ r. is_below (entry again r) k) (λ r. is_below (entry again r) j) (λ r. below-more (entry again r) k j l)

    number-less : (r k j : ℕ) → r < len → entry again r ≡ Some k → k < j
        → count_below len (λ i. is_below (entry again i) k) < count_below len (λ i. is_below (entry again i) j)
    number-less r k j l e h = count-strict len (λ i. is_below (entry again i) k) (λ i. is_below (entry again i) j)
        (λ i. below-more (entry again i) k j (omega arith)) r l
        (subst (λ (o : Option ℕ). IsTrue (is_below o j)) (sym e) (lt-ltb k j h))
        (subst (λ (o : Option ℕ). is_below o k ≡ false) (sym e) (le-ltb k k (omega arith)))

    rank-is : (p q k : ℕ) → entry p q ≡ Some k → rank_in (entry p q) ≡ k
    rank-is p q k e = ap rank_in e

    kept : (p q r k j : ℕ) → p ≤ last → entry p q ≡ Some k → entry (after p) r ≡ Some j → j < k
        → IsTrue (is_kept (p == last) (number_of p q) (number_of (after p) r))
    kept p q r k j l e f h = elim (cases_lt p last) [
      | inl x ↦ subst (λ (t : Truth). IsTrue (is_kept t (number_of p q) (number_of (after p) r))) (sym (ne_eqb p last (λ g. omega arith)))
          (le-leb (number_of (after p) r) (number_of p q) (number-more (rank_in (entry (after p) r)) (rank_in (entry p q))
          (omega (arith, rank-is p q k e, rank-is (after p) r j f))))
      | inr x ↦ subst (λ (t : Truth). IsTrue (is_kept t (number_of p q) (number_of (after p) r))) (sym (eq-eqb p last (omega arith)))
          (lt-ltb (number_of (after p) r) (number_of p q) (at-end (omega arith)))
    ]
      where
        at-end : p ≡ last → number_of (after p) r < number_of p q
        at-end g =
            let again-is : after p ≡ again = ap (λ i. after i) g ∙ after-last last again in
            let f' : entry again r ≡ Some j = subst (λ (i : ℕ). entry i r ≡ Some j) again-is f in
            let x = number-less r j k (run.within again r j f').1 f' h in
            rw (rank-is (after p) r j f, rank-is p q k e) x

    serving : (p q r k : ℕ) → p ≤ last → entry p q ≡ Some k → (o : Option ℕ) → entry (after p) r ≡ o
        → IsTrue (acceptance.serves o (look r).accepting k)
        → IsTrue (is_some o && serves a (p == last) q (number_of p q) r (number_of (after p) r))
    serving p q r k l e None f h = h
    serving p q r k l e (Some j) f h = elim (or_cases (look r).accepting (nat_lt j k) h) [
      | inl x ↦ or_left ((look q).accepting || (look r).accepting) (is_kept (p == last) (number_of p q) (number_of (after p) r))
          (or_right (look q).accepting (look r).accepting x)
      | inr x ↦ or_right ((look q).accepting || (look r).accepting) (is_kept (p == last) (number_of p q) (number_of (after p) r))
          (kept p q r k j l e f (ltb-true j k x))
    ]

    asked-of : (p q : ℕ) → p ≤ last → q < len → IsTrue (is_owed p q)
        → IsTrue (met (look q).delta (letter p) (λ r. is_owed (after p) r && serves a (p == last) q (number_of p q) r (number_of (after p) r)))
    asked-of p q l h v = let k = some-of (entry p q) v in elim (cases_Bool (look q).accepting) [
      | inl acc ↦ met-grows (look q).delta (letter p) (λ r. is_some (entry (after p) r))
          (λ r. is_owed (after p) r && serves a (p == last) q (number_of p q) r (number_of (after p) r))
          (λ r o w. and_from (is_owed (after p) r) (serves a (p == last) q (number_of p q) r (number_of (after p) r)) w
          (or_left ((look q).accepting || (look r).accepting) (is_kept (p == last) (number_of p q) (number_of (after p) r))
          (or_left (look q).accepting (look r).accepting acc)))
          (run.accepting p q k.0 k.1 acc)
      | inr acc ↦ met-grows (look q).delta (letter p) (λ r. acceptance.serves (entry (after p) r) (look r).accepting k.0)
          (λ r. is_owed (after p) r && serves a (p == last) q (number_of p q) r (number_of (after p) r))
          (λ r o w. serving p q r k.0 l k.1 (entry (after p) r) refl w)
          (run.others p q k.0 k.1 acc)
    ]

    searched-of : IsSearched a last again letter is_owed number_of
    searched-of = record { begins = run.begins; meets = asked-of }

    small-of : AreSmall a number_of
    small-of p q = count-at_most len (λ r. is_below (entry again r) (rank_in (entry p q)))

-- over the places of a word

run-next : (a : Automaton) (count : ℕ) (letter : ℕ → Letter) (f g : ℕ → ℕ) (entry : ℕ → ℕ → Option ℕ)
    → ((p : ℕ) → p < count → f p ≡ g p) → IsRun a count letter f entry → IsRun a count letter g entry
run-next a count letter f g entry same run = record {
  within = run.within;
  begins = run.begins;
  accepting = λ p q k e acc. subst (λ (i : ℕ). IsTrue (met (obligation_at a.obligations q).delta (letter p) (λ r. is_some (entry i r))))
      (same p (run.within p q k e).0) (run.accepting p q k e acc);
  others = λ p q k e acc. subst (λ (i : ℕ). IsTrue (met (obligation_at a.obligations q).delta (letter p)
      (λ r. acceptance.serves (entry i r) (obligation_at a.obligations r).accepting k)))
      (same p (run.within p q k e).0) (run.others p q k e acc);
}

pub numbers-accepted : (a : Automaton) (word : Word) (last : ℕ) (owed : ℕ → ℕ → Truth) (number : ℕ → ℕ → ℕ)
    → IsSound a → 0 < length word.looped → places word ≡ suc last
    → IsSearched a last (length word.stem) (letter_at word) owed number → Accepts a word
numbers-accepted a word last owed number sound some e s none =
    none (entries a sound last (length word.stem) (omega (arith, e)) (letter_at word) owed number s)
    (rw e (run-next a (suc last) (letter_at word) (place_after last (length word.stem)) (next_place word)
    (entries a sound last (length word.stem) (omega (arith, e)) (letter_at word) owed number s)
    (λ p l. sym (next-after word last p some e (omega arith)))
    (run-of a sound last (length word.stem) (omega (arith, e)) (letter_at word) owed number s)))

pub accepted-numbers : (a : Automaton) (word : Word) (last : ℕ)
    → IsSound a → 0 < length word.looped → places word ≡ suc last → Accepts a word
    → ((owed : ℕ → ℕ → Truth) (number : ℕ → ℕ → ℕ)
    → IsSearched a last (length word.stem) (letter_at word) owed number → AreSmall a number → ⊥) → ⊥
accepted-numbers a word last sound some e accepts none = accepts (λ entry run.
    (let same : IsRun a (suc last) (letter_at word) (place_after last (length word.stem)) entry =
    run-next a (suc last) (letter_at word) (next_place word) (place_after last (length word.stem)) entry
    (λ p l. next-after word last p some e (omega arith))
    (subst (λ (n : ℕ). IsRun a n (letter_at word) (next_place word) entry) e run) in
    none (is_owed a sound last (length word.stem) (omega (arith, e)) (letter_at word) entry same)
    (number_of a sound last (length word.stem) (omega (arith, e)) (letter_at word) entry same)
    (searched-of a sound last (length word.stem) (omega (arith, e)) (letter_at word) entry same)
    (small-of a sound last (length word.stem) (omega (arith, e)) (letter_at word) entry same)))
