-- Scores of numbers that stand above others: each of them owes lower numbers, or others of the upper ones.
use Rattle.std.proofs.Common.{◌≡◌, ◌⊎◌, inl, inr, refl, sym, ap, ◌∙◌, ℕ, ◌+◌, ◌≤◌, ◌<◌, Bool as Truth, true, false, arith}
use Rattle.std.specs.Prelude.{IsTrue, not, ◌&&◌, ◌||◌, nat_lt, if◌then◌else◌}
use Rattle.std.proofs.lemmas.Bool.{cases_lt, lt-ltb, le-ltb, or_left}
use Rattle.alternating_theory.specs.Courses.{Course}
use Rattle.alternating_theory.specs.Obligations.{Obligation}
use Rattle.alternating_theory.specs.Positive.{met, owes, OwesWithin}
use Rattle.alternating_theory.proofs.MetLaws.{met-same, within-wider}
use Rattle.alternating_theory.proofs.Reached.{owed-within}
use Rattle.alternating_theory.proofs.Scores.{lower, AtEnds, Scored}

-- one of two below a number, and the other from it on
abbrev pub below_or : {A : Type 0} → ℕ → ℕ → A → A → A
below_or mid q x y = if nat_lt q mid then x else y

pub below-left : {A : Type 0} (mid q : ℕ) (x y : A) → q < mid → below_or mid q x y ≡ x
below-left mid q x y h = rw (lt-ltb q mid h) refl

pub below-right : {A : Type 0} (mid q : ℕ) (x y : A) → mid ≤ q → below_or mid q x y ≡ y
below-right mid q x y h = rw (le-ltb q mid h) refl

plus-below : (k i j : ℕ) → nat_lt (k + i) (k + j) ≡ nat_lt i j
plus-below k i j = grind arith

-- the numbers from mid on, above those of which `old` gives the values
pub record Upper (c : Course) (n top bottom low mid high : ℕ) (look : ℕ → Obligation) (old : ℕ → ℕ → Truth) : Type 0 where
  pub value : ℕ → ℕ → Truth
  pub level : ℕ → ℕ
  pub rank : ℕ → ℕ → ℕ
  pub height : ℕ
  pub within : (q : ℕ) → mid ≤ q → q < high → OwesWithin low high (look q).delta
  pub step : (p q : ℕ) → p < n → mid ≤ q → q < high → value p q ≡ met (look q).delta (c.letter p) (λ r. below_or mid r (old (c.next p) r) (value (c.next p) r))
  pub wins : (p q : ℕ) → p < n → mid ≤ q → q < high → (look q).accepting ≡ false → value p q ≡ true
      → met (look q).delta (c.letter p) (λ r. below_or mid r (old (c.next p) r) (value (c.next p) r) && (nat_lt r mid || lower level rank p q (c.next p) r)) ≡ true
  pub loses : (p q : ℕ) → p < n → mid ≤ q → q < high → (look q).accepting ≡ true → value p q ≡ false
      → met (look q).delta (c.letter p) (λ r. below_or mid r (old (c.next p) r) (value (c.next p) r) || not (nat_lt r mid || lower level rank p q (c.next p) r)) ≡ false
  pub falls : (q r : ℕ) → mid ≤ q → q < high → mid ≤ r → IsTrue (owes (look q).delta r)
      → (level r < level q) ⊎ ((level r ≡ level q) × ((look r).accepting ≡ (look q).accepting))
  pub beneath : (q : ℕ) → mid ≤ q → q < high → level q < height
  pub ends : AtEnds n top bottom mid high look value

module _ (c : Course) (n top bottom low mid high : ℕ) (look : ℕ → Obligation) (old : Scored c n top bottom low mid look)
    (l : low ≤ mid) (h : mid ≤ high) (u : Upper c n top bottom low mid high look old.value) where
  abbrev value : ℕ → ℕ → Truth
  value p q = below_or mid q (old.value p q) (u.value p q)

  abbrev level : ℕ → ℕ
  level q = below_or mid q (old.level q) (old.height + u.level q)

  abbrev rank : ℕ → ℕ → ℕ
  rank p q = below_or mid q (old.rank p q) (u.rank p q)

  value-left : (p q : ℕ) → q < mid → value p q ≡ old.value p q
  value-left p q k = below-left mid q (old.value p q) (u.value p q) k

  value-right : (p q : ℕ) → mid ≤ q → value p q ≡ u.value p q
  value-right p q k = below-right mid q (old.value p q) (u.value p q) k

  level-left : (q : ℕ) → q < mid → level q ≡ old.level q
  level-left q k = below-left mid q (old.level q) (old.height + u.level q) k

  level-right : (q : ℕ) → mid ≤ q → level q ≡ old.height + u.level q
  level-right q k = below-right mid q (old.level q) (old.height + u.level q) k

  lower-left : (p q p' r : ℕ) → q < mid → r < mid → lower level rank p q p' r ≡ lower old.level old.rank p q p' r
  lower-left p q p' r a b = let e = lt-ltb q mid a in let f = lt-ltb r mid b in rw (e, f) refl

  lower-right : (p q p' r : ℕ) → mid ≤ q → low ≤ r → lower level rank p q p' r ≡ (nat_lt r mid || lower u.level u.rank p q p' r)
  lower-right p q p' r a b = elim (cases_lt r mid) [
    | inl k ↦ below k ∙ sym (or_left (nat_lt r mid) (lower u.level u.rank p q p' r) (lt-ltb r mid k))
    | inr k ↦ above k
  ]
    where
      below : r < mid → lower level rank p q p' r ≡ true
      below k = or_left (nat_lt (level r) (level q)) (nat_lt (rank p' r) (rank p q))
          (lt-ltb (level r) (level q) (omega (arith, level-left r k, level-right q a, old.beneath r b k)))

      above : mid ≤ r → lower level rank p q p' r ≡ (nat_lt r mid || lower u.level u.rank p q p' r)
      above k =
          let e = le-ltb q mid a in let f = le-ltb r mid k in
          rw (e, f) (ap (λ (t : Truth). t || nat_lt (u.rank p' r) (u.rank p q)) (plus-below old.height (u.level r) (u.level q)))

  within : (q : ℕ) → low ≤ q → q < high → OwesWithin low high (look q).delta
  within q a b = elim (cases_lt q mid) [
    | inl k ↦ within-wider low mid low high (omega arith) h (look q).delta (old.within q a k)
    | inr k ↦ u.within q k b
  ]

  step : (p q : ℕ) → p < n → low ≤ q → q < high → value p q ≡ met (look q).delta (c.letter p) (value (c.next p))
  step p q i a b = elim (cases_lt q mid) [
    | inl k ↦ value-left p q k ∙ old.step p q i a k
        ∙ met-same low mid (look q).delta (old.within q a k) (c.letter p) (old.value (c.next p)) (value (c.next p)) (λ r x y. sym (value-left (c.next p) r y))
    | inr k ↦ value-right p q k ∙ u.step p q i k b
  ]

  wins : (p q : ℕ) → p < n → low ≤ q → q < high → (look q).accepting ≡ false → value p q ≡ true
      → met (look q).delta (c.letter p) (λ r. value (c.next p) r && lower level rank p q (c.next p) r) ≡ true
  wins p q i a b acc v = elim (cases_lt q mid) [
    | inl k ↦ met-same low mid (look q).delta (old.within q a k) (c.letter p) (λ r. value (c.next p) r && lower level rank p q (c.next p) r)
        (λ r. old.value (c.next p) r && lower old.level old.rank p q (c.next p) r)
        (λ r x y. ap (λ (t : Truth). t && lower level rank p q (c.next p) r) (value-left (c.next p) r y) ∙ ap (λ (t : Truth). old.value (c.next p) r && t) (lower-left p q (c.next p) r k y))
        ∙ old.wins p q i a k acc (sym (value-left p q k) ∙ v)
    | inr k ↦ met-same low high (look q).delta (u.within q k b) (c.letter p) (λ r. value (c.next p) r && lower level rank p q (c.next p) r)
        (λ r. value (c.next p) r && (nat_lt r mid || lower u.level u.rank p q (c.next p) r))
        (λ r x y. ap (λ (t : Truth). value (c.next p) r && t) (lower-right p q (c.next p) r k x))
        ∙ u.wins p q i k b acc (sym (value-right p q k) ∙ v)
  ]

  loses : (p q : ℕ) → p < n → low ≤ q → q < high → (look q).accepting ≡ true → value p q ≡ false
      → met (look q).delta (c.letter p) (λ r. value (c.next p) r || not (lower level rank p q (c.next p) r)) ≡ false
  loses p q i a b acc v = elim (cases_lt q mid) [
    | inl k ↦ met-same low mid (look q).delta (old.within q a k) (c.letter p) (λ r. value (c.next p) r || not (lower level rank p q (c.next p) r))
        (λ r. old.value (c.next p) r || not (lower old.level old.rank p q (c.next p) r))
        (λ r x y. ap (λ (t : Truth). t || not (lower level rank p q (c.next p) r)) (value-left (c.next p) r y)
        ∙ ap (λ (t : Truth). old.value (c.next p) r || not t) (lower-left p q (c.next p) r k y))
        ∙ old.loses p q i a k acc (sym (value-left p q k) ∙ v)
    | inr k ↦ met-same low high (look q).delta (u.within q k b) (c.letter p) (λ r. value (c.next p) r || not (lower level rank p q (c.next p) r))
        (λ r. value (c.next p) r || not (nat_lt r mid || lower u.level u.rank p q (c.next p) r))
        (λ r x y. ap (λ (t : Truth). value (c.next p) r || not t) (lower-right p q (c.next p) r k x))
        ∙ u.loses p q i k b acc (sym (value-right p q k) ∙ v)
  ]

  falls : (q r : ℕ) → low ≤ q → q < high → IsTrue (owes (look q).delta r) → (level r < level q) ⊎ ((level r ≡ level q) × ((look r).accepting ≡ (look q).accepting))
  falls q r a b o = elim (cases_lt q mid) as (λ _. (level r < level q) ⊎ ((level r ≡ level q) × ((look r).accepting ≡ (look q).accepting))) [
    | inl k ↦ under k
    | inr k ↦ over k (cases_lt r mid)
  ]
    where
      under : q < mid → (level r < level q) ⊎ ((level r ≡ level q) × ((look r).accepting ≡ (look q).accepting))
      under k =
          let y = owed-within low mid (look q).delta (old.within q a k) r o in
          elim (old.falls q r a k o) as (λ _. (level r < level q) ⊎ ((level r ≡ level q) × ((look r).accepting ≡ (look q).accepting))) [
            | inl x ↦ inl (omega (arith, x, level-left r y.1, level-left q k))
            | inr x ↦ inr (level-left r y.1 ∙ x.0 ∙ sym (level-left q k), x.1)
          ]

      over : mid ≤ q → ((r < mid) ⊎ (mid ≤ r)) → (level r < level q) ⊎ ((level r ≡ level q) × ((look r).accepting ≡ (look q).accepting))
      over k (inl i) =
          let y = owed-within low high (look q).delta (u.within q k b) r o in
          inl (omega (arith, level-left r i, level-right q k, old.beneath r y.0 i))
      over k (inr i) = elim (u.falls q r k b i o) as (λ _. (level r < level q) ⊎ ((level r ≡ level q) × ((look r).accepting ≡ (look q).accepting))) [
        | inl x ↦ inl (omega (arith, x, level-right r i, level-right q k))
        | inr x ↦ inr (level-right r i ∙ ap (λ j. old.height + j) x.0 ∙ sym (level-right q k), x.1)
      ]

  beneath : (q : ℕ) → low ≤ q → q < high → level q < old.height + u.height
  beneath q a b = elim (cases_lt q mid) [
    | inl k ↦ omega (arith, level-left q k, old.beneath q a k)
    | inr k ↦ omega (arith, level-right q k, u.beneath q k b)
  ]

  ends : AtEnds n top bottom low high look value
  ends = record {
    at_top = λ q a b. elim (cases_lt q mid) [
      | inl k ↦ value-left top q k ∙ old.ends.at_top q a k
      | inr k ↦ value-right top q k ∙ u.ends.at_top q k b
    ];
    at_bottom = λ q a b. elim (cases_lt q mid) [
      | inl k ↦ value-left bottom q k ∙ old.ends.at_bottom q a k
      | inr k ↦ value-right bottom q k ∙ u.ends.at_bottom q k b
    ];
    up = λ p q i a b v. elim (cases_lt q mid) [
      | inl k ↦ old.ends.up p q i a k (sym (value-left p q k) ∙ v)
      | inr k ↦ u.ends.up p q i k b (sym (value-right p q k) ∙ v)
    ];
    down = λ p q i a b v. elim (cases_lt q mid) [
      | inl k ↦ value-left p q k ∙ old.ends.down p q i a k v
      | inr k ↦ value-right p q k ∙ u.ends.down p q i k b v
    ];
  }

  pub split-score : Scored c n top bottom low high look
  split-score = record {
    value = value;
    level = level;
    rank = rank;
    height = old.height + u.height;
    within = within;
    step = step;
    wins = wins;
    loses = loses;
    falls = falls;
    beneath = beneath;
    ends = ends;
  }

  pub split-value : (p q : ℕ) → split-score.value p q ≡ below_or mid q (old.value p q) (u.value p q)
  unfolding split-score
  split-value p q = refl

  pub split-left : (p q : ℕ) → q < mid → split-score.value p q ≡ old.value p q
  unfolding split-score
  split-left p q k = value-left p q k

  pub split-right : (p q : ℕ) → mid ≤ q → split-score.value p q ≡ u.value p q
  unfolding split-score
  split-right p q k = value-right p q k

-- numbers that owe none of the lower ones
module _ (c : Course) (n top bottom low mid high : ℕ) (look : ℕ → Obligation) (old : ℕ → ℕ → Truth) (l : low ≤ mid) (g : Scored c n top bottom mid high look) where
  merged : (p r : ℕ) → mid ≤ r → below_or mid r (old p r) (g.value p r) ≡ g.value p r
  merged p r k = below-right mid r (old p r) (g.value p r) k

  own : (p q p' r : ℕ) → mid ≤ r → (nat_lt r mid || lower g.level g.rank p q p' r) ≡ lower g.level g.rank p q p' r
  own p q p' r k = rw (le-ltb r mid k) refl

  pub apart : Upper c n top bottom low mid high look old
  apart = record {
    value = g.value;
    level = g.level;
    rank = g.rank;
    height = g.height;
    within = λ q a b. within-wider mid high low high l (omega arith) (look q).delta (g.within q a b);
    step = λ p q i a b. g.step p q i a b
        ∙ met-same mid high (look q).delta (g.within q a b) (c.letter p) (g.value (c.next p)) (λ r. below_or mid r (old (c.next p) r) (g.value (c.next p) r))
        (λ r x y. sym (merged (c.next p) r x));
    wins = λ p q i a b acc v.
        met-same mid high (look q).delta (g.within q a b) (c.letter p)
        (λ r. below_or mid r (old (c.next p) r) (g.value (c.next p) r) && (nat_lt r mid || lower g.level g.rank p q (c.next p) r))
        (λ r. g.value (c.next p) r && lower g.level g.rank p q (c.next p) r)
        (λ r x y. ap (λ (t : Truth). t && (nat_lt r mid || lower g.level g.rank p q (c.next p) r)) (merged (c.next p) r x)
        ∙ ap (λ (t : Truth). g.value (c.next p) r && t) (own p q (c.next p) r x))
        ∙ g.wins p q i a b acc v;
    loses = λ p q i a b acc v.
        met-same mid high (look q).delta (g.within q a b) (c.letter p)
        (λ r. below_or mid r (old (c.next p) r) (g.value (c.next p) r) || not (nat_lt r mid || lower g.level g.rank p q (c.next p) r))
        (λ r. g.value (c.next p) r || not (lower g.level g.rank p q (c.next p) r))
        (λ r x y. ap (λ (t : Truth). t || not (nat_lt r mid || lower g.level g.rank p q (c.next p) r)) (merged (c.next p) r x)
        ∙ ap (λ (t : Truth). g.value (c.next p) r || not t) (own p q (c.next p) r x))
        ∙ g.loses p q i a b acc v;
    falls = λ q r a b k o. g.falls q r a b o;
    beneath = g.beneath;
    ends = g.ends;
  }

  pub apart-value : (p q : ℕ) → apart.value p q ≡ g.value p q
  unfolding apart
  apart-value p q = refl
