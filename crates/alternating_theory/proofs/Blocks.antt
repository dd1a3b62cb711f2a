-- Numbers above others, all of them accepting or none: their values are the least set, or the greatest,
-- that their deltas give back.
use Rattle.std.proofs.Common.{◌≡◌, inl, inr, refl, sym, ap, ◌∙◌, subst, ℕ, ◌+◌, ◌-◌, ◌≤◌, ◌<◌, Bool as Truth, true, false, arith}
use Rattle.std.specs.Prelude.{IsTrue, not, ◌&&◌, ◌||◌, nat_lt}
use Rattle.std.proofs.lemmas.Bool.{both_ways, not-true, not-false, not_from_false, cases_lt, or_left, or_right, lt-ltb, and_parts, and_from, true_from_ne_false, false_from_ne_true}
use Rattle.alternating_theory.specs.Courses.{Course}
use Rattle.alternating_theory.proofs.Ends.{IsCourse}
use Rattle.alternating_theory.specs.Obligations.{Obligation}
use Rattle.alternating_theory.specs.Positive.{met, OwesWithin}
use Rattle.alternating_theory.proofs.MetLaws.{met-more}
use Rattle.alternating_theory.proofs.Reached.{owed-within}
use Rattle.alternating_theory.proofs.Flips.{not-twice}
use Rattle.alternating_theory.proofs.Rounds.{least, round, least-falls, least-step, least-sound}
use Rattle.alternating_theory.proofs.Scores.{lower, AtEnds}
use Rattle.alternating_theory.proofs.Splits.{below_or, below-left, below-right, Upper}

-- a test, negated where the numbers are accepting
abbrev pub turn : Truth → Truth → Truth
turn true t = not t
turn false t = t

pub turn-twice : (a t : Truth) → turn a (turn a t) ≡ t
turn-twice true t = not-twice t
turn-twice false t = refl

module _ (c : Course) (n top bottom : ℕ) (course : IsCourse c n top bottom) (low mid high many : ℕ) (size : high ≡ mid + many) (begins : low ≤ mid)
    (look : ℕ → Obligation) (old : ℕ → ℕ → Truth) (acc : Truth)
    (kind : (t : ℕ) → t < many → (look (mid + t)).accepting ≡ acc)
    (owing : (t : ℕ) → t < many → OwesWithin low high (look (mid + t)).delta) where
  -- the values where the block has these
  abbrev pub with_block : (ℕ → ℕ → Truth) → ℕ → ℕ → Truth
  with_block f p r = below_or mid r (old p r) (turn acc (f p (r - mid)))

  abbrev pub block_op : (ℕ → ℕ → Truth) → ℕ → ℕ → Truth
  block_op f p t = turn acc (met (look (mid + t)).delta (c.letter p) (λ r. with_block f (c.next p) r))

  -- an operation that is monotone
  pub op-more : (f g : ℕ → ℕ → Truth) → ((p t : ℕ) → p < n → t < many → IsTrue (f p t) → IsTrue (g p t)) → (p t : ℕ) → p < n → t < many → IsTrue (block_op f p t) → IsTrue (block_op g p t)
  op-more f g e p t l h k = at acc refl
    where
      -- turned, the values fall
      raises : (b : Truth) → acc ≡ b → (r : ℕ) → low ≤ r → r < high → IsTrue (turn b (with_block f (c.next p) r)) → IsTrue (turn b (with_block g (c.next p) r))
      raises b a r x y v = elim (cases_lt r mid) [
        | inl z ↦ subst (λ (i : Truth). IsTrue (turn b i)) (below-left mid r (old (c.next p) r) (turn acc (f (c.next p) (r - mid))) z
            ∙ sym (below-left mid r (old (c.next p) r) (turn acc (g (c.next p) (r - mid))) z)) v
        | inr z ↦ subst (λ (i : Truth). IsTrue (turn b i)) (sym (below-right mid r (old (c.next p) r) (turn acc (g (c.next p) (r - mid))) z))
            (subst (λ (d : Truth). IsTrue (turn b (turn d (g (c.next p) (r - mid))))) (sym a)
            (sym (sym (turn-twice b (g (c.next p) (r - mid)))) ∙ e (c.next p) (r - mid) (course.next_below p l) (omega (arith, size))
            (sym (turn-twice b (f (c.next p) (r - mid))) ∙ subst (λ (d : Truth). IsTrue (turn b (turn d (f (c.next p) (r - mid))))) a
            (subst (λ (i : Truth). IsTrue (turn b i)) (below-right mid r (old (c.next p) r) (turn acc (f (c.next p) (r - mid))) z) v))))
      ]

      plain : (b : Truth) → acc ≡ b → IsTrue (turn b (met (look (mid + t)).delta (c.letter p) (λ r. with_block f (c.next p) r)))
          → IsTrue (turn b (met (look (mid + t)).delta (c.letter p) (λ r. with_block g (c.next p) r)))
      plain false a v = met-more low high (look (mid + t)).delta (owing t h) (c.letter p) (λ r. with_block f (c.next p) r) (λ r. with_block g (c.next p) r) (raises false a) v
      plain true a v = not_from_false _ (false_from_ne_true _ (λ u. both_ways _ (not-true _ v)
          (met-more low high (look (mid + t)).delta (owing t h) (c.letter p) (λ r. with_block g (c.next p) r) (λ r. with_block f (c.next p) r)
          (λ r x y w. true_from_ne_false _ (λ z. both_ways _ (not-true _ (raises true a r x y (not_from_false _ z))) w)) u)))

      at : (b : Truth) → acc ≡ b → IsTrue (block_op g p t)
      at b a = subst (λ (d : Truth). IsTrue (turn d (met (look (mid + t)).delta (c.letter p) (λ r. with_block g (c.next p) r)))) (sym a)
          (plain b a (subst (λ (d : Truth). IsTrue (turn d (met (look (mid + t)).delta (c.letter p) (λ r. with_block f (c.next p) r)))) a k))

  -- where the block's numbers are not accepting this set has what is true, and else what is false
  abbrev pub found : ℕ → ℕ → Truth
  found p t = least n many block_op op-more p t

  abbrev pub block_value : ℕ → ℕ → Truth
  block_value p q = turn acc (found p (q - mid))

  abbrev pub whole_value : ℕ → ℕ → Truth
  whole_value p r = below_or mid r (old p r) (block_value p r)

  back-again : (t : ℕ) → mid + t - mid ≡ t
  back-again t = omega arith

  pub block-at : (p t : ℕ) → block_value p (mid + t) ≡ turn acc (found p t)
  block-at p t = ap (λ i. turn acc (found p i)) (back-again t)

  pub block-step : (p t : ℕ) → p < n → t < many → block_value p (mid + t) ≡ met (look (mid + t)).delta (c.letter p) (λ r. whole_value (c.next p) r)
  block-step p t l h = block-at p t ∙ ap (λ (u : Truth). turn acc u) (least-step n many block_op op-more p t l h)
      ∙ turn-twice acc (met (look (mid + t)).delta (c.letter p) (λ r. whole_value (c.next p) r))

  -- what holds of what the deltas give of what it holds of
  pub block-sound : (T : ℕ → ℕ → Type 0)
      → ((f : ℕ → ℕ → Truth) → ((p t : ℕ) → p < n → t < many → IsTrue (f p t) → T p t) → (p t : ℕ) → p < n → t < many → IsTrue (block_op f p t) → T p t)
      → (p t : ℕ) → p < n → t < many → IsTrue (found p t) → T p t
  block-sound T gives = least-sound n many block_op op-more T gives

  module _ (ends : AtEnds n top bottom mid high look block_value) where
    abbrev rank : ℕ → ℕ → ℕ
    rank p q = round n many block_op op-more p (q - mid)

    abbrev level : ℕ → ℕ
    level q = 0

    sooner : (p t r : ℕ) → mid ≤ r → IsTrue (nat_lt (round n many block_op op-more (c.next p) (r - mid)) (round n many block_op op-more p t))
        → IsTrue (nat_lt r mid || lower level rank p (mid + t) (c.next p) r)
    sooner p t r x v =
        let e : nat_lt (rank (c.next p) r) (rank p (mid + t)) ≡ nat_lt (round n many block_op op-more (c.next p) (r - mid)) (round n many block_op op-more p t) =
        ap (λ i. nat_lt (round n many block_op op-more (c.next p) (r - mid)) (round n many block_op op-more p i)) (back-again t) in
        or_right (nat_lt r mid) (lower level rank p (mid + t) (c.next p) r) (or_right (nat_lt (level r) (level (mid + t))) (nat_lt (rank (c.next p) r) (rank p (mid + t))) (e ∙ v))

    abbrev falling : ℕ → ℕ → ℕ → ℕ → Truth
    falling p t a b = found a b && nat_lt (round n many block_op op-more a b) (round n many block_op op-more p t)

    block-wins : (p t : ℕ) → p < n → t < many → acc ≡ false → block_value p (mid + t) ≡ true
        → met (look (mid + t)).delta (c.letter p) (λ r. whole_value (c.next p) r && (nat_lt r mid || lower level rank p (mid + t) (c.next p) r)) ≡ true
    block-wins p t l h a v =
        met-more low high (look (mid + t)).delta (owing t h) (c.letter p) (λ r. with_block (falling p t) (c.next p) r)
        (λ r. whole_value (c.next p) r && (nat_lt r mid || lower level rank p (mid + t) (c.next p) r)) each
        (subst (λ (d : Truth). IsTrue (turn d (met (look (mid + t)).delta (c.letter p) (λ r. with_block (falling p t) (c.next p) r)))) a
        (least-falls n many block_op op-more p t l h (subst (λ (d : Truth). IsTrue (turn d (found p t))) a (sym (block-at p t) ∙ v))))
      where
        each : (r : ℕ) → low ≤ r → r < high → IsTrue (with_block (falling p t) (c.next p) r) → IsTrue (whole_value (c.next p) r && (nat_lt r mid || lower level rank p (mid + t) (c.next p) r))
        each r x y w = elim (cases_lt r mid) [
          | inl z ↦ and_from (whole_value (c.next p) r) (nat_lt r mid || lower level rank p (mid + t) (c.next p) r)
              (below-left mid r (old (c.next p) r) (block_value (c.next p) r) z ∙ sym (below-left mid r (old (c.next p) r) (turn acc (falling p t (c.next p) (r - mid))) z) ∙ w)
              (or_left (nat_lt r mid) (lower level rank p (mid + t) (c.next p) r) (lt-ltb r mid z))
          | inr z ↦ (let u = and_parts (found (c.next p) (r - mid)) (nat_lt (round n many block_op op-more (c.next p) (r - mid)) (round n many block_op op-more p t))
              (subst (λ (d : Truth). IsTrue (turn d (falling p t (c.next p) (r - mid)))) a (sym (below-right mid r (old (c.next p) r) (turn acc (falling p t (c.next p) (r - mid))) z) ∙ w)) in
              and_from (whole_value (c.next p) r) (nat_lt r mid || lower level rank p (mid + t) (c.next p) r)
              (below-right mid r (old (c.next p) r) (block_value (c.next p) r) z ∙ subst (λ (d : Truth). IsTrue (turn d (found (c.next p) (r - mid)))) (sym a) u.0)
              (sooner p t r z u.1))
        ]

    block-loses : (p t : ℕ) → p < n → t < many → acc ≡ true → block_value p (mid + t) ≡ false
        → met (look (mid + t)).delta (c.letter p) (λ r. whole_value (c.next p) r || not (nat_lt r mid || lower level rank p (mid + t) (c.next p) r)) ≡ false
    block-loses p t l h a v =
        false_from_ne_true _ (λ u. both_ways _
        (not-true _ (subst (λ (d : Truth). IsTrue (turn d (met (look (mid + t)).delta (c.letter p) (λ r. with_block (falling p t) (c.next p) r)))) a
        (least-falls n many block_op op-more p t l h (not-false _ (subst (λ (d : Truth). turn d (found p t) ≡ false) a (sym (block-at p t) ∙ v))))))
        (met-more low high (look (mid + t)).delta (owing t h) (c.letter p) (λ r. whole_value (c.next p) r || not (nat_lt r mid || lower level rank p (mid + t) (c.next p) r))
        (λ r. with_block (falling p t) (c.next p) r) each u))
      where
        unsure : (f s w : Truth) → (IsTrue s → IsTrue w) → IsTrue (not f || not w) → IsTrue (not (f && s))
        unsure true true w k e = absurd (both_ways w (not-true w e) (k refl))
        unsure true false w k e = refl
        unsure false s w k e = refl

        certain : (o w : Truth) → IsTrue w → IsTrue (o || not w) → IsTrue o
        certain true w k e = refl
        certain false w k e = absurd (both_ways w (not-true w e) k)

        each : (r : ℕ) → low ≤ r → r < high → IsTrue (whole_value (c.next p) r || not (nat_lt r mid || lower level rank p (mid + t) (c.next p) r)) → IsTrue (with_block (falling p t) (c.next p) r)
        each r x y w = elim (cases_lt r mid) [
          | inl z ↦ below-left mid r (old (c.next p) r) (turn acc (falling p t (c.next p) (r - mid))) z
              ∙ certain (old (c.next p) r) (nat_lt r mid || lower level rank p (mid + t) (c.next p) r) (or_left (nat_lt r mid) (lower level rank p (mid + t) (c.next p) r) (lt-ltb r mid z))
              (subst (λ (d : Truth). IsTrue (d || not (nat_lt r mid || lower level rank p (mid + t) (c.next p) r))) (below-left mid r (old (c.next p) r) (block_value (c.next p) r) z) w)
          | inr z ↦ below-right mid r (old (c.next p) r) (turn acc (falling p t (c.next p) (r - mid))) z
              ∙ subst (λ (d : Truth). IsTrue (turn d (falling p t (c.next p) (r - mid)))) (sym a)
              (unsure (found (c.next p) (r - mid)) (nat_lt (round n many block_op op-more (c.next p) (r - mid)) (round n many block_op op-more p t))
              (nat_lt r mid || lower level rank p (mid + t) (c.next p) r) (sooner p t r z)
              (subst (λ (d : Truth). IsTrue (turn d (found (c.next p) (r - mid)) || not (nat_lt r mid || lower level rank p (mid + t) (c.next p) r))) a
              (subst (λ (d : Truth). IsTrue (d || not (nat_lt r mid || lower level rank p (mid + t) (c.next p) r))) (below-right mid r (old (c.next p) r) (block_value (c.next p) r) z) w)))
        ]

    -- the number of the block that a number is
    placed : (P : ℕ → Type 0) → ((t : ℕ) → t < many → P (mid + t)) → (q : ℕ) → mid ≤ q → q < high → P q
    placed P k q x y = let e : mid + (q - mid) ≡ q = omega arith in subst P e (k (q - mid) (omega (arith, size)))

    accepting-is : (q : ℕ) → mid ≤ q → q < high → (look q).accepting ≡ acc
    accepting-is = placed (λ q. (look q).accepting ≡ acc) kind

    pub block : Upper c n top bottom low mid high look old
    block = record {
      value = block_value;
      level = level;
      rank = rank;
      height = 1;
      within = placed (λ q. OwesWithin low high (look q).delta) owing;
      step = λ p q i. placed (λ q. block_value p q ≡ met (look q).delta (c.letter p) (λ r. whole_value (c.next p) r)) (λ t h. block-step p t i h) q;
      wins = λ p q i x y e v. placed (λ q. acc ≡ false → block_value p q ≡ true
          → met (look q).delta (c.letter p) (λ r. whole_value (c.next p) r && (nat_lt r mid || lower level rank p q (c.next p) r)) ≡ true)
          (λ t h. block-wins p t i h) q x y (sym (accepting-is q x y) ∙ e) v;
      loses = λ p q i x y e v. placed (λ q. acc ≡ true → block_value p q ≡ false
          → met (look q).delta (c.letter p) (λ r. whole_value (c.next p) r || not (nat_lt r mid || lower level rank p q (c.next p) r)) ≡ false)
          (λ t h. block-loses p t i h) q x y (sym (accepting-is q x y) ∙ e) v;
      falls = λ q r x y z o. inr (
        refl,
        (let w = owed-within low high (look q).delta (placed (λ q. OwesWithin low high (look q).delta) owing q x y) r o in
            accepting-is r z w.1 ∙ sym (accepting-is q x y)),
      );
      beneath = λ q x y. omega arith;
      ends = ends;
    }

    pub block-value : (p q : ℕ) → block.value p q ≡ block_value p q
    unfolding block
    block-value p q = refl
