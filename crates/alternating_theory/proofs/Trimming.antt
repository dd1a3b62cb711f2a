-- The score of the trimmed automaton, from that of the whole list.
use Rattle.std.proofs.Common.{◌≡◌, ◌⊎◌, inl, inr, refl, sym, ap, ◌∙◌, subst, ℕ, zero, suc, ◌+◌, ◌≤◌, ◌<◌, Bool as Truth, true, false, List, length, arith}
use Rattle.std.specs.Prelude.{IsTrue, not, ◌&&◌, ◌||◌, ◌==◌, if◌then◌else◌}
use Rattle.std.proofs.lemmas.Bool.{both_ways, and_parts, and_from, eq-eqb, cases_lt, cases_order}
use Rattle.psl_tree.specs.declared.letter.Letter.{Letter}
use Rattle.alternating_theory.specs.Courses.{Course}
use Rattle.alternating_theory.specs.Obligations.{Obligation, obligation_at}
use Rattle.alternating_theory.specs.Positive.{met, owes, OwesWithin}
use Rattle.alternating_theory.specs.Trimmed.{is_reached, count_below, renumbered_obligation, trimmed}
use Rattle.alternating_theory.proofs.Kept.{count-less}
use Rattle.alternating_theory.proofs.MetLaws.{met-renumbered, within-wider}
use Rattle.alternating_theory.proofs.Reached.{same-number, met-owed}
use Rattle.alternating_theory.proofs.Trims.{after-new, owed-kept, start-kept, origin, trimmed-below, trimmed-last}
use Rattle.alternating_theory.proofs.MetOwed.{owed-renumbered}
use Rattle.alternating_theory.proofs.Scores.{lower, AtEnds, Scored}

-- the highest number below a bound that passes a test, if one does
abbrev pick : ℕ → (ℕ → Truth) → ℕ
pick zero test = 0
pick (suc n) test = if test n then n else pick n test

picked : (n : ℕ) (test : ℕ → Truth) (j : ℕ) → j < n → IsTrue (test j) → (pick n test < n) × IsTrue (test (pick n test))
picked zero test j l h = absurd (omega arith)
picked (suc n) test j l h = at (test n) refl (cases_lt j n) (λ k. picked n test j k h)
  where
    at : (b : Truth) → test n ≡ b → ((j < n) ⊎ (n ≤ j)) → (j < n → (pick n test < n) × IsTrue (test (pick n test)))
        → ((if b then n else pick n test) < suc n) × IsTrue (test (if b then n else pick n test))
    at true e s rec = (omega arith, e)
    at false e (inl k) rec = let r = rec k in (omega (arith, r.0), r.1)
    at false e (inr k) rec = let f : j ≡ n = omega arith in absurd (both_ways (test n) e (subst (λ (i : ℕ). IsTrue (test i)) f h))

-- the last obligation is the start, and no obligation owes it
module _ (os : List Obligation) (start : ℕ) (last : length os ≡ start + 1)
    (below : (q : ℕ) → q < length os → OwesWithin 0 start (obligation_at os q).delta)
    (c : Course) (n top bottom : ℕ) (s : Scored c n top bottom 0 (length os) (obligation_at os)) where
  abbrev keep : ℕ → Truth
  keep = is_reached os start

  abbrev new : ℕ → ℕ
  new = λ number. count_below number (is_reached os start)

  abbrev look : ℕ → Obligation
  look = obligation_at os

  abbrev after : ℕ → Obligation
  after = obligation_at (trimmed os start).obligations

  abbrev len : ℕ
  len = length (trimmed os start).obligations

  -- the number that has this new number
  abbrev place_of : ℕ → ℕ
  place_of q = pick (length os) (λ j. keep j && (new j == q))

  place-is : (j q : ℕ) → j < length os → IsTrue (keep j) → q ≡ new j → (place_of q < length os) × IsTrue (keep (place_of q)) × (new (place_of q) ≡ q)
  place-is j q l k e =
      let u = picked (length os) (λ i. keep i && (new i == q)) j l (and_from (keep j) (new j == q) k (eq-eqb (new j) q (sym e))) in
      let parts = and_parts (keep (place_of q)) (new (place_of q) == q) u.1 in
      (u.0, parts.0, same-number (new (place_of q)) q parts.1)

  -- kept numbers of one new number are one
  one-number : (i j : ℕ) → IsTrue (keep i) → IsTrue (keep j) → new i ≡ new j → i ≡ j
  one-number i j k l e = elim (cases_order i j) [
    | inl x ↦ x
    | inr (inl x) ↦ absurd (omega (arith, e, count-less i j keep x k))
    | inr (inr x) ↦ absurd (omega (arith, e, count-less j i keep x l))
  ]

  place-new : (j : ℕ) → j < length os → IsTrue (keep j) → place_of (new j) ≡ j
  place-new j l k = let u = place-is j (new j) l k refl in one-number (place_of (new j)) j u.1 k u.2

  -- each number of the trimmed automaton is a kept one's
  each : (P : ℕ → Type 0) → ((j : ℕ) → j < length os → IsTrue (keep j) → P (new j)) → (q : ℕ) → q < len → P q
  each P f q l = let o = origin os start last below q l in subst P (sym o.3) (f o.0 o.1 o.2)

  after-is : (j : ℕ) → j < length os → IsTrue (keep j) → after (new j) ≡ renumbered_obligation new (look j)
  after-is j l k = after-new os start last below j l k

  abbrev value : ℕ → ℕ → Truth
  value p q = s.value p (place_of q)

  abbrev level : ℕ → ℕ
  level q = s.level (place_of q)

  abbrev rank : ℕ → ℕ → ℕ
  rank p q = s.rank p (place_of q)

  -- what meets the obligation of a kept number
  met-new : (j : ℕ) → j < length os → IsTrue (keep j) → (x : Letter) (f g : ℕ → Truth) → ((r : ℕ) → place_of (new r) ≡ r → f (new r) ≡ g r)
      → met (after (new j)).delta x f ≡ met (look j).delta x g
  met-new j l k x f g e =
      ap (λ (o : Obligation). met o.delta x f) (after-is j l k)
      ∙ met-renumbered new (look j).delta x f
      ∙ met-owed (look j).delta x (λ r. f (new r)) g (λ r o. (let w = owed-kept os start last below j r l k o in e r (place-new r (omega (arith, w.0)) w.1)))

  lower-new : (p j p' r : ℕ) → place_of (new j) ≡ j → place_of (new r) ≡ r → lower level rank p (new j) p' (new r) ≡ lower s.level s.rank p j p' r
  lower-new p j p' r e f = ap (λ i. lower s.level s.rank p i p' (place_of (new r))) e ∙ ap (λ i. lower s.level s.rank p j p' i) f

  value-new : (p j : ℕ) → place_of (new j) ≡ j → value p (new j) ≡ s.value p j
  value-new p j e = ap (λ i. s.value p i) e

  step : (p j : ℕ) → p < n → j < length os → IsTrue (keep j) → value p (new j) ≡ met (after (new j)).delta (c.letter p) (value (c.next p))
  step p j i l k = value-new p j (place-new j l k) ∙ s.step p j i (omega arith) l
      ∙ sym (met-new j l k (c.letter p) (value (c.next p)) (s.value (c.next p)) (λ r e. value-new (c.next p) r e))

  wins : (p j : ℕ) → p < n → j < length os → IsTrue (keep j) → (after (new j)).accepting ≡ false → value p (new j) ≡ true
      → met (after (new j)).delta (c.letter p) (λ r. value (c.next p) r && lower level rank p (new j) (c.next p) r) ≡ true
  wins p j i l k acc v =
      met-new j l k (c.letter p) (λ r. value (c.next p) r && lower level rank p (new j) (c.next p) r) (λ r. s.value (c.next p) r && lower s.level s.rank p j (c.next p) r)
      (λ r e. ap (λ (t : Truth). t && lower level rank p (new j) (c.next p) (new r)) (value-new (c.next p) r e)
      ∙ ap (λ (t : Truth). s.value (c.next p) r && t) (lower-new p j (c.next p) r (place-new j l k) e))
      ∙ s.wins p j i (omega arith) l (sym (ap (λ (o : Obligation). o.accepting) (after-is j l k)) ∙ acc) (sym (value-new p j (place-new j l k)) ∙ v)

  loses : (p j : ℕ) → p < n → j < length os → IsTrue (keep j) → (after (new j)).accepting ≡ true → value p (new j) ≡ false
      → met (after (new j)).delta (c.letter p) (λ r. value (c.next p) r || not (lower level rank p (new j) (c.next p) r)) ≡ false
  loses p j i l k acc v =
      met-new j l k (c.letter p) (λ r. value (c.next p) r || not (lower level rank p (new j) (c.next p) r)) (λ r. s.value (c.next p) r || not (lower s.level s.rank p j (c.next p) r))
      (λ r e. ap (λ (t : Truth). t || not (lower level rank p (new j) (c.next p) (new r))) (value-new (c.next p) r e)
      ∙ ap (λ (t : Truth). s.value (c.next p) r || not t) (lower-new p j (c.next p) r (place-new j l k) e))
      ∙ s.loses p j i (omega arith) l (sym (ap (λ (o : Obligation). o.accepting) (after-is j l k)) ∙ acc) (sym (value-new p j (place-new j l k)) ∙ v)

  abbrev Falls : ℕ → ℕ → Type 0
  Falls q r = (level r < level q) ⊎ ((level r ≡ level q) × ((after r).accepting ≡ (after q).accepting))

  falls : (j r : ℕ) → j < length os → IsTrue (keep j) → IsTrue (owes (after (new j)).delta r) → Falls (new j) r
  falls j r l k o =
      let u = owed-renumbered new (look j).delta r (subst (λ (t : Obligation). IsTrue (owes t.delta r)) (after-is j l k) o) in
      let w = owed-kept os start last below j u.0 l k u.1 in
      let m : u.0 < length os = omega (arith, w.0) in
      let a = ap (λ i. s.level i) (place-new u.0 m w.1) in
      let b = ap (λ i. s.level i) (place-new j l k) in
      subst (λ (i : ℕ). Falls (new j) i) (sym u.2) (elim (s.falls j u.0 (omega arith) l u.1) as (λ _. Falls (new j) (new u.0)) [
        | inl x ↦ inl (omega (arith, a, b, x))
        | inr x ↦ inr (
          a ∙ x.0 ∙ sym b,
          ap (λ (t : Obligation). t.accepting) (after-is u.0 m w.1) ∙ x.1 ∙ sym (ap (λ (t : Obligation). t.accepting) (after-is j l k)),
        )
      ])

  ends : AtEnds n top bottom 0 len after value
  ends = record {
    at_top = λ q a. each (λ q. value top q ≡ (after q).top) (λ j l k.
        value-new top j (place-new j l k) ∙ s.ends.at_top j (omega arith) l ∙ sym (ap (λ (o : Obligation). o.top) (after-is j l k))) q;
    at_bottom = λ q a. each (λ q. value bottom q ≡ (after q).bottom) (λ j l k.
        value-new bottom j (place-new j l k) ∙ s.ends.at_bottom j (omega arith) l ∙ sym (ap (λ (o : Obligation). o.bottom) (after-is j l k))) q;
    up = λ p q i a. each (λ q. IsTrue (value p q) → IsTrue (after q).top) (λ j l k v.
        ap (λ (o : Obligation). o.top) (after-is j l k) ∙ s.ends.up p j i (omega arith) l (sym (value-new p j (place-new j l k)) ∙ v)) q;
    down = λ p q i a. each (λ q. IsTrue (after q).bottom → IsTrue (value p q)) (λ j l k v.
        value-new p j (place-new j l k) ∙ s.ends.down p j i (omega arith) l (sym (ap (λ (o : Obligation). o.bottom) (after-is j l k)) ∙ v)) q;
  }

  pub trimmed-score : Scored c n top bottom 0 (length (trimmed os start).obligations) (obligation_at (trimmed os start).obligations)
  trimmed-score = record {
    value = value;
    level = level;
    rank = rank;
    height = s.height;
    within = λ q a l. within-wider 0 (trimmed os start).start 0 len (omega arith) (omega (arith, trimmed-last os start last below)) (after q).delta (trimmed-below os start last below q l);
    step = λ p q i a. each (λ q. value p q ≡ met (after q).delta (c.letter p) (value (c.next p))) (λ j l k. step p j i l k) q;
    wins = λ p q i a l. each (λ q. (after q).accepting ≡ false → value p q ≡ true
        → met (after q).delta (c.letter p) (λ r. value (c.next p) r && lower level rank p q (c.next p) r) ≡ true) (λ j m k. wins p j i m k) q l;
    loses = λ p q i a l. each (λ q. (after q).accepting ≡ true → value p q ≡ false
        → met (after q).delta (c.letter p) (λ r. value (c.next p) r || not (lower level rank p q (c.next p) r)) ≡ false) (λ j m k. loses p j i m k) q l;
    falls = λ q r a l. each (λ q. IsTrue (owes (after q).delta r) → Falls q r) (λ j m k. falls j r m k) q l;
    beneath = λ q a. each (λ q. level q < s.height) (λ j l k. subst (λ (i : ℕ). s.level i < s.height) (sym (place-new j l k)) (s.beneath j (omega arith) l)) q;
    ends = ends;
  }

  pub trimmed-start : (p : ℕ) → trimmed-score.value p (trimmed os start).start ≡ s.value p start
  unfolding trimmed-score
  trimmed-start p = value-new p start (place-new start (omega arith) (start-kept os start last below))
