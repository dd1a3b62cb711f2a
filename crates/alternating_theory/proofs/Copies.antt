-- The score of copies that may be cut, from that of the originals on the course that goes on at Top for
-- ever from the first place on which the Boolean holds.
use Rattle.std.proofs.Common.{◌≡◌, ◌⊎◌, inl, inr, refl, sym, ap, ◌∙◌, subst, ℕ, zero, suc, ◌+◌, ◌-◌, ◌≤◌, ◌<◌, Bool as Truth, true, false, arith}
use Rattle.std.specs.Prelude.{IsTrue, not, ◌&&◌, ◌||◌, nat_lt, if◌then◌else◌}
use Rattle.std.proofs.lemmas.Bool.{both_ways, not-true, not_from_false, false_from_ne_true, cases_Bool, cases_lt, or_cases, or_left, or_right, or_from, and_parts, and_from, ltb-true, lt-ltb}
use Rattle.psl_tree.specs.Holds.{holds}
use Rattle.psl_tree.specs.Trees.{Boolean}
use Rattle.psl_tree.specs.declared.letter.Letter.{Letter}
use Rattle.psl_tree.specs.declared.letter.Letter.TheVariants.{Top}
use Rattle.alternating_theory.specs.Courses.{Course, stopped}
use Rattle.alternating_theory.proofs.Ends.{IsCourse}
use Rattle.alternating_theory.specs.Construction.{cut_obligation}
use Rattle.alternating_theory.specs.Obligations.{Obligation}
use Rattle.alternating_theory.specs.Positive.{Positive, met, owes, OwesWithin}
use Rattle.alternating_theory.proofs.MetLaws.{met-same, met-more, met-top, met-renumbered, within-renumbered}
use Rattle.alternating_theory.proofs.Reached.{owed-within}
use Rattle.alternating_theory.proofs.MetOwed.{owed-renumbered}
use Rattle.alternating_theory.proofs.Scores.{lower, AtEnds, Scored}

-- a number above all these
above : (ℕ → ℕ) → ℕ → ℕ
above f zero = 0
above f (suc k) = suc (f k) + above f k

above-all : (f : ℕ → ℕ) (k i : ℕ) → i < k → f i < above f k
unfolding above
above-all f zero i l = absurd (omega arith)
above-all f (suc k) i l = elim (cases_lt i k) [
  | inl a ↦ omega (arith, above-all f k i a)
  | inr a ↦ (let e : i ≡ k = omega arith in subst (λ (j : ℕ). f j < suc (f k) + above f k) (sym e) (omega arith))
]

pub absorbed : (t v : Truth) → (IsTrue v → IsTrue t) → (t || v) ≡ t
absorbed true v f = refl
absorbed false true f = sym (f refl)
absorbed false false f = refl

-- numbers from low on and below mid, and their copies from mid on and below high
module _ (c : Course) (n top bottom : ℕ) (course : IsCourse c n top bottom) (b : Boolean) (low mid high size : ℕ) (middle : mid ≡ low + size) (last : high ≡ mid + size)
    (look look' : ℕ → Obligation)
    (copied : (q : ℕ) → low ≤ q → q < mid → look' (q + size) ≡ cut_obligation (λ number. number + size) b (look q))
    (t : Scored (stopped (λ p. holds (c.letter p) b) top c) n top bottom low mid look) where
  abbrev pub halted : Course
  halted = stopped (λ p. holds (c.letter p) b) top c

  abbrev pub stop : ℕ → Truth
  stop p = holds (c.letter p) b

  abbrev new : ℕ → ℕ
  new = λ number. number + size

  -- the copy of an obligation at a place
  abbrev pub said : ℕ → ℕ → Truth
  said p q = if stop p then (look q).top else t.value p q

  said-stop : (p q : ℕ) → stop p ≡ true → said p q ≡ (look q).top
  said-stop p q e = ap (λ (u : Truth). if u then (look q).top else t.value p q) e

  said-on : (p q : ℕ) → stop p ≡ false → said p q ≡ t.value p q
  said-on p q e = ap (λ (u : Truth). if u then (look q).top else t.value p q) e

  next-stop : (p : ℕ) → stop (c.next p) ≡ true → halted.next p ≡ top
  next-stop p e = ap (λ (u : Truth). if u then top else c.next p) e

  next-on : (p : ℕ) → stop (c.next p) ≡ false → halted.next p ≡ c.next p
  next-on p e = ap (λ (u : Truth). if u then top else c.next p) e

  -- at the next place the copy is what the original is there on the stopped course
  pub ahead : (p q : ℕ) → low ≤ q → q < mid → said (c.next p) q ≡ t.value (halted.next p) q
  ahead p q x y = elim (cases_Bool (stop (c.next p))) [
    | inl e ↦ said-stop (c.next p) q e ∙ sym (ap (λ i. t.value i q) (next-stop p e) ∙ t.ends.at_top q x y)
    | inr e ↦ said-on (c.next p) q e ∙ sym (ap (λ i. t.value i q) (next-on p e))
  ]

  said-up : (p q : ℕ) → p < n → low ≤ q → q < mid → IsTrue (said p q) → IsTrue (look q).top
  said-up p q i x y v = elim (cases_Bool (stop p)) [
    | inl e ↦ sym (said-stop p q e) ∙ v
    | inr e ↦ t.ends.up p q i x y (sym (said-on p q e) ∙ v)
  ]

  pub later : (p : ℕ) (d : Positive) → OwesWithin low mid d → met d (c.letter p) (λ q. said (c.next p) q) ≡ met d (c.letter p) (λ q. t.value (halted.next p) q)
  later p d w = met-same low mid d w (c.letter p) (λ q. said (c.next p) q) (λ q. t.value (halted.next p) q) (λ q x y. ahead p q x y)

  said-step : (p q : ℕ) → p < n → low ≤ q → q < mid → said p q ≡ ((stop p && (look q).top) || met (look q).delta (c.letter p) (λ i. said (c.next p) i))
  said-step p q i x y = elim (cases_Bool (stop p)) [
    | inl e ↦ said-stop p q e ∙ sym (ap (λ (u : Truth). (u && (look q).top) || met (look q).delta (c.letter p) (λ i. said (c.next p) i)) e
        ∙ absorbed (look q).top (met (look q).delta (c.letter p) (λ i. said (c.next p) i)) (λ v. t.ends.up p q i x y (again ∙ v)))
    | inr e ↦ said-on p q e ∙ again ∙ sym (ap (λ (u : Truth). (u && (look q).top) || met (look q).delta (c.letter p) (λ i. said (c.next p) i)) e)
  ]
    where
      again : t.value p q ≡ met (look q).delta (c.letter p) (λ i. said (c.next p) i)
      again = t.step p q i x y ∙ sym (later p (look q).delta (t.within q x y))

  -- ranks: a copy whose value on Top for ever is false is false everywhere, for the reason that it has there
  bound : ℕ
  bound = above (λ q. t.rank top q) mid

  abbrev delay : ℕ → ℕ → ℕ
  delay p q = if (look q).top then (if stop p then 0 else bound + t.rank p q) else t.rank top q

  delay-stop : (p q : ℕ) → (look q).top ≡ true → stop p ≡ true → delay p q ≡ 0
  delay-stop p q e f = rw (e, f) refl

  delay-on : (p q : ℕ) → (look q).top ≡ true → stop p ≡ false → delay p q ≡ bound + t.rank p q
  delay-on p q e f = rw (e, f) refl

  delay-false : (p q : ℕ) → (look q).top ≡ false → delay p q ≡ t.rank top q
  delay-false p q e = ap (λ (u : Truth). if u then (if stop p then 0 else bound + t.rank p q) else t.rank top q) e

  below-bound : (q : ℕ) → q < mid → t.rank top q < bound
  unfolding bound
  below-bound q l = above-all (λ q. t.rank top q) mid q l

  sooner : (p q r : ℕ) → r < mid → (look q).top ≡ true → stop p ≡ false → IsTrue (lower t.level t.rank p q (halted.next p) r) → IsTrue (lower t.level delay p q (c.next p) r)
  sooner p q r l e f v = elim (or_cases (nat_lt (t.level r) (t.level q)) (nat_lt (t.rank (halted.next p) r) (t.rank p q)) v) [
    | inl x ↦ or_left (nat_lt (t.level r) (t.level q)) (nat_lt (delay (c.next p) r) (delay p q)) x
    | inr x ↦ or_right (nat_lt (t.level r) (t.level q)) (nat_lt (delay (c.next p) r) (delay p q))
        (lt-ltb (delay (c.next p) r) (delay p q) (at (cases_Bool (look r).top) (cases_Bool (stop (c.next p))) (ltb-true (t.rank (halted.next p) r) (t.rank p q) x)))
  ]
    where
      at : (((look r).top ≡ true) ⊎ ((look r).top ≡ false)) → ((stop (c.next p) ≡ true) ⊎ (stop (c.next p) ≡ false)) → t.rank (halted.next p) r < t.rank p q → delay (c.next p) r < delay p q
      at (inl x) (inl y) z = omega (arith, delay-stop (c.next p) r x y, delay-on p q e f)
      at (inl x) (inr y) z = omega (arith, delay-on (c.next p) r x y, delay-on p q e f, ap (λ i. t.rank i r) (next-on p y))
      at (inr x) y z = omega (arith, delay-false (c.next p) r x, delay-on p q e f, below-bound r l)

  said-wins : (p q : ℕ) → p < n → low ≤ q → q < mid → (look q).accepting ≡ false → said p q ≡ true
      → ((stop p && (look q).top) || met (look q).delta (c.letter p) (λ r. said (c.next p) r && lower t.level delay p q (c.next p) r)) ≡ true
  said-wins p q i x y acc v = elim (cases_Bool (stop p)) [
    | inl e ↦ or_left (stop p && (look q).top) (met (look q).delta (c.letter p) (λ r. said (c.next p) r && lower t.level delay p q (c.next p) r)) (and_from (stop p) (look q).top e top-true)
    | inr e ↦ or_right (stop p && (look q).top) (met (look q).delta (c.letter p) (λ r. said (c.next p) r && lower t.level delay p q (c.next p) r))
        (met-more low mid (look q).delta (t.within q x y) (c.letter p) (λ r. t.value (halted.next p) r && lower t.level t.rank p q (halted.next p) r)
        (λ r. said (c.next p) r && lower t.level delay p q (c.next p) r)
        (λ r k l w. (let parts = and_parts (t.value (halted.next p) r) (lower t.level t.rank p q (halted.next p) r) w in
        and_from (said (c.next p) r) (lower t.level delay p q (c.next p) r) (ahead p r k l ∙ parts.0) (sooner p q r l top-true e parts.1)))
        (t.wins p q i x y acc (sym (said-on p q e) ∙ v)))
  ]
    where
      top-true : (look q).top ≡ true
      top-true = said-up p q i x y v

  -- a disjunction, from one that is larger
  either-more : (s s' w w' : Truth) → (IsTrue s → IsTrue s') → (IsTrue w' → IsTrue w) → IsTrue (s || not w) → IsTrue (s' || not w')
  either-more true s' w w' f g h = or_left s' (not w') (f refl)
  either-more false s' w w' f g h = or_right s' (not w') (not_from_false w' (false_from_ne_true w' (λ k. both_ways w (not-true w h) (g k))))

  said-loses : (p q : ℕ) → p < n → low ≤ q → q < mid → (look q).accepting ≡ true → said p q ≡ false
      → ((stop p && (look q).top) || met (look q).delta (c.letter p) (λ r. said (c.next p) r || not (lower t.level delay p q (c.next p) r))) ≡ false
  said-loses p q i x y acc v = elim (cases_Bool (look q).top) [
    | inr e ↦ or_from (stop p && (look q).top) (met (look q).delta (c.letter p) (λ r. said (c.next p) r || not (lower t.level delay p q (c.next p) r)))
        (false_from_ne_true _ (λ k. both_ways (look q).top e (and_parts (stop p) (look q).top k).1)) (never e)
    | inl e ↦ or_from (stop p && (look q).top) (met (look q).delta (c.letter p) (λ r. said (c.next p) r || not (lower t.level delay p q (c.next p) r)))
        (false_from_ne_true _ (λ k. both_ways (stop p) (on e) (and_parts (stop p) (look q).top k).0)) (here e (on e))
  ]
    where
      on : (look q).top ≡ true → stop p ≡ false
      on e = false_from_ne_true (stop p) (λ k. both_ways (said p q) v (said-stop p q k ∙ e))

      here : (look q).top ≡ true → stop p ≡ false → met (look q).delta (c.letter p) (λ r. said (c.next p) r || not (lower t.level delay p q (c.next p) r)) ≡ false
      here e f = false_from_ne_true _ (λ k. both_ways _ (t.loses p q i x y acc (sym (said-on p q f) ∙ v))
          (met-more low mid (look q).delta (t.within q x y) (c.letter p) (λ r. said (c.next p) r || not (lower t.level delay p q (c.next p) r))
          (λ r. t.value (halted.next p) r || not (lower t.level t.rank p q (halted.next p) r))
          (λ r z l w. either-more (said (c.next p) r) (t.value (halted.next p) r) (lower t.level delay p q (c.next p) r) (lower t.level t.rank p q (halted.next p) r)
          (λ s. sym (ahead p r z l) ∙ s) (sooner p q r l e f) w) k))

      stays : halted.next top ≡ top
      stays = at (stop (c.next top))
        where
          at : (u : Truth) → (if u then top else c.next top) ≡ top
          at true = refl
          at false = course.top_next

      at-top : (look q).top ≡ false → met (look q).delta Top (λ r. t.value top r || not (lower t.level t.rank top q top r)) ≡ false
      at-top e =
          ap (λ (z : Letter). met (look q).delta z (λ r. t.value top r || not (lower t.level t.rank top q top r))) (sym course.top_letter)
          ∙ ap (λ k. met (look q).delta (c.letter top) (λ r. t.value k r || not (lower t.level t.rank top q k r))) (sym stays)
          ∙ t.loses top q course.top_below x y acc (t.ends.at_top q x y ∙ e)

      never : (look q).top ≡ false → met (look q).delta (c.letter p) (λ r. said (c.next p) r || not (lower t.level delay p q (c.next p) r)) ≡ false
      never e = false_from_ne_true _ (λ k. both_ways _ (at-top e)
          (met-more low mid (look q).delta (t.within q x y) Top (λ r. said (c.next p) r || not (lower t.level delay p q (c.next p) r))
          (λ r. t.value top r || not (lower t.level t.rank top q top r))
          (λ r z l w. each r z l w (cases_Bool (look r).top))
          (met-top (look q).delta (c.letter p) (λ r. said (c.next p) r || not (lower t.level delay p q (c.next p) r)) k)))
        where
          each : (r : ℕ) → low ≤ r → r < mid → IsTrue (said (c.next p) r || not (lower t.level delay p q (c.next p) r)) → (((look r).top ≡ true) ⊎ ((look r).top ≡ false))
              → IsTrue (t.value top r || not (lower t.level t.rank top q top r))
          each r z l w (inl f) = or_left (t.value top r) (not (lower t.level t.rank top q top r)) (t.ends.at_top r z l ∙ f)
          each r z l w (inr f) = either-more (said (c.next p) r) (t.value top r) (lower t.level delay p q (c.next p) r) (lower t.level t.rank top q top r)
              (λ s. absurd (both_ways (look r).top f (said-up (c.next p) r (course.next_below p i) z l s)))
              (λ s. subst (λ (m : ℕ). IsTrue (nat_lt (t.level r) (t.level q) || nat_lt (delay (c.next p) r) m)) (sym (delay-false p q e))
              (subst (λ (m : ℕ). IsTrue (nat_lt (t.level r) (t.level q) || nat_lt m (t.rank top q))) (sym (delay-false (c.next p) r f)) s)) w

  -- the copies by their own numbers

  back-again : (q : ℕ) → q + size - size ≡ q
  back-again q = omega arith

  range : (q : ℕ) → low ≤ q → q < mid → (mid ≤ q + size) × (q + size < high)
  range q x y = (omega arith, omega arith)

  placed : (P : ℕ → Type 0) → ((q : ℕ) → low ≤ q → q < mid → P (q + size)) → (r : ℕ) → mid ≤ r → r < high → P r
  placed P k r x y = let e : (r - size) + size ≡ r = omega arith in subst P e (k (r - size) (omega arith) (omega arith))

  abbrev value : ℕ → ℕ → Truth
  value p r = said p (r - size)

  abbrev level : ℕ → ℕ
  level r = t.level (r - size)

  abbrev rank : ℕ → ℕ → ℕ
  rank p r = delay p (r - size)

  value-at : (p q : ℕ) → value p (q + size) ≡ said p q
  value-at p q = ap (λ i. said p i) (back-again q)

  level-at : (q : ℕ) → level (q + size) ≡ t.level q
  level-at q = ap (λ i. t.level i) (back-again q)

  lower-at : (p q p' r : ℕ) → lower level rank p (q + size) p' (r + size) ≡ lower t.level delay p q p' r
  lower-at p q p' r = ap (λ i. lower t.level delay p i p' (r + size - size)) (back-again q) ∙ ap (λ i. lower t.level delay p q p' i) (back-again r)

  -- what meets a copy
  copy-met : (p q : ℕ) → low ≤ q → q < mid → (f g : ℕ → Truth) → ((r : ℕ) → f (r + size) ≡ g r)
      → met (look' (q + size)).delta (c.letter p) f ≡ ((stop p && (look q).top) || met (look q).delta (c.letter p) g)
  copy-met p q x y f g e =
      ap (λ (o : Obligation). met o.delta (c.letter p) f) (copied q x y)
      ∙ ap (λ (u : Truth). (stop p && (look q).top) || u)
      (met-renumbered new (look q).delta (c.letter p) f
      ∙ met-same low mid (look q).delta (t.within q x y) (c.letter p) (λ r. f (r + size)) g (λ r _ _. e r))

  copy-within : (q : ℕ) → low ≤ q → q < mid → OwesWithin mid high (look' (q + size)).delta
  copy-within q x y = subst (λ (o : Obligation). OwesWithin mid high o.delta) (sym (copied q x y))
      ((tt, tt), within-renumbered low mid mid high new range (look q).delta (t.within q x y))

  copy-owes : (q r : ℕ) → low ≤ q → q < mid → IsTrue (owes (look' (q + size)).delta r) → (i : ℕ) × IsTrue (owes (look q).delta i) × (r ≡ i + size)
  copy-owes q r x y o = owed-renumbered new (look q).delta r (subst (λ (k : Obligation). IsTrue (owes k.delta r)) (copied q x y) o)

  abbrev Falls : ℕ → ℕ → Type 0
  Falls q r = (level r < level q) ⊎ ((level r ≡ level q) × ((look' r).accepting ≡ (look' q).accepting))

  copy-falls : (q r : ℕ) → low ≤ q → q < mid → IsTrue (owes (look' (q + size)).delta r) → Falls (q + size) r
  copy-falls q r x y o =
      let i = copy-owes q r x y o in
      let w = owed-within low mid (look q).delta (t.within q x y) i.0 i.1 in
      subst (λ (k : ℕ). Falls (q + size) k) (sym i.2) (elim (t.falls q i.0 x y i.1) as (λ _. Falls (q + size) (i.0 + size)) [
        | inl u ↦ inl (omega (arith, u, level-at i.0, level-at q))
        | inr u ↦ inr (
          level-at i.0 ∙ u.0 ∙ sym (level-at q),
          ap (λ (k : Obligation). k.accepting) (copied i.0 w.0 w.1) ∙ u.1 ∙ sym (ap (λ (k : Obligation). k.accepting) (copied q x y)),
        )
      ])

  copy-ends : AtEnds n top bottom mid high look' value
  copy-ends = record {
    at_top = placed (λ r. value top r ≡ (look' r).top) (λ q x y.
        value-at top q ∙ said-stop top q (ap (λ (z : Letter). holds z b) course.top_letter) ∙ sym (ap (λ (k : Obligation). k.top) (copied q x y)));
    at_bottom = placed (λ r. value bottom r ≡ (look' r).bottom) (λ q x y.
        value-at bottom q ∙ said-on bottom q (ap (λ (z : Letter). holds z b) course.bottom_letter) ∙ t.ends.at_bottom q x y ∙ sym (ap (λ (k : Obligation). k.bottom) (copied q x y)));
    up = λ p r i. placed (λ r. IsTrue (value p r) → IsTrue (look' r).top) (λ q x y v.
        subst (λ (k : Obligation). IsTrue k.top) (sym (copied q x y)) (said-up p q i x y (sym (value-at p q) ∙ v))) r;
    down = λ p r i. placed (λ r. IsTrue (look' r).bottom → IsTrue (value p r)) (λ q x y v.
        value-at p q ∙ lowest p q i x y (subst (λ (k : Obligation). IsTrue k.bottom) (copied q x y) v) (cases_Bool (stop p))) r;
  }
    where
      lowest : (p q : ℕ) → p < n → low ≤ q → q < mid → IsTrue (look q).bottom → ((stop p ≡ true) ⊎ (stop p ≡ false)) → IsTrue (said p q)
      lowest p q i x y v (inl e) = said-stop p q e ∙ t.ends.up p q i x y (t.ends.down p q i x y v)
      lowest p q i x y v (inr e) = said-on p q e ∙ t.ends.down p q i x y v

  pub copies-score : Scored c n top bottom mid high look'
  copies-score = record {
    value = value;
    level = level;
    rank = rank;
    height = t.height;
    within = placed (λ r. OwesWithin mid high (look' r).delta) copy-within;
    step = λ p r i. placed (λ r. value p r ≡ met (look' r).delta (c.letter p) (value (c.next p))) (λ q x y.
        value-at p q ∙ said-step p q i x y ∙ sym (copy-met p q x y (value (c.next p)) (λ j. said (c.next p) j) (value-at (c.next p)))) r;
    wins = λ p r i x y. placed (λ r. (look' r).accepting ≡ false → value p r ≡ true
        → met (look' r).delta (c.letter p) (λ j. value (c.next p) j && lower level rank p r (c.next p) j) ≡ true) (λ q x y acc v.
        copy-met p q x y (λ j. value (c.next p) j && lower level rank p (q + size) (c.next p) j) (λ j. said (c.next p) j && lower t.level delay p q (c.next p) j)
        (λ j. ap (λ (u : Truth). u && lower level rank p (q + size) (c.next p) (j + size)) (value-at (c.next p) j) ∙ ap (λ (u : Truth). said (c.next p) j && u) (lower-at p q (c.next p) j))
        ∙ said-wins p q i x y (sym (ap (λ (k : Obligation). k.accepting) (copied q x y)) ∙ acc) (sym (value-at p q) ∙ v)) r x y;
    loses = λ p r i x y. placed (λ r. (look' r).accepting ≡ true → value p r ≡ false
        → met (look' r).delta (c.letter p) (λ j. value (c.next p) j || not (lower level rank p r (c.next p) j)) ≡ false) (λ q x y acc v.
        copy-met p q x y (λ j. value (c.next p) j || not (lower level rank p (q + size) (c.next p) j)) (λ j. said (c.next p) j || not (lower t.level delay p q (c.next p) j))
        (λ j. ap (λ (u : Truth). u || not (lower level rank p (q + size) (c.next p) (j + size))) (value-at (c.next p) j) ∙ ap (λ (u : Truth). said (c.next p) j || not u) (lower-at p q (c.next p) j))
        ∙ said-loses p q i x y (sym (ap (λ (k : Obligation). k.accepting) (copied q x y)) ∙ acc) (sym (value-at p q) ∙ v)) r x y;
    falls = λ q r x y. placed (λ q. IsTrue (owes (look' q).delta r) → Falls q r) (λ q x y. copy-falls q r x y) q x y;
    beneath = placed (λ r. level r < t.height) (λ q x y. subst (λ (k : ℕ). k < t.height) (sym (level-at q)) (t.beneath q x y));
    ends = copy-ends;
  }

  pub copies-value : (p q : ℕ) → copies-score.value p (q + size) ≡ said p q
  unfolding copies-score
  copies-value p q = value-at p q
