-- The scores of b, b!, not f, f && g, X! f and f U g.
use Rattle.std.proofs.Common.{◌≡◌, inl, inr, refl, sym, ap, ◌∙◌, subst, ℕ, ◌+◌, ◌-◌, ◌≤◌, ◌<◌, Bool as Truth, true, false, [], ◌∷◌, ◌++◌, length, arith}
use Rattle.std.specs.Prelude.{◌↔◌, IsTrue, not, ◌&&◌, ◌||◌, None}
use Rattle.std.proofs.lemmas.Bool.{both_ways, not-true, or_cases, or_left, or_right, and_parts, and_from}
use Rattle.std.proofs.lemmas.List.{length-append, length-map}
use Rattle.psl_tree.specs.Clockless.{IsPlain}
use Rattle.psl_tree.specs.Satisfaction.{Sat}
use Rattle.psl_tree.specs.Trace.{Trace}
use Rattle.psl_tree.proofs.Choice.{iff-trans}
use Rattle.psl_tree.proofs.Values.{fails}
use Rattle.psl_tree.specs.Trees.{Boolean, Formula, Now, NowStrong, Not, And, Next, Until}
use Rattle.alternating_theory.specs.Courses.{Course, read_from, opposite}
use Rattle.alternating_theory.proofs.Ends.{opposite-course}
use Rattle.alternating_theory.proofs.Reaching.{Reaches, reaches-until, reaches-here, reaches-later, reaches-least}
use Rattle.alternating_theory.proofs.Walks.{suffix-next}
use Rattle.alternating_theory.specs.Construction.{Part, now_part, not_part, and_part, next_part, until_part, opposite_obligation, with_letter, until_obligation}
use Rattle.alternating_theory.specs.Obligations.{Obligation, numbered}
use Rattle.alternating_theory.specs.Positive.{met, OwesWithin}
use Rattle.alternating_theory.proofs.MetLaws.{met-same, within-wider}
use Rattle.alternating_theory.proofs.Parts.{end_of, IsPartOf}
use Rattle.alternating_theory.proofs.Untils.{until-is}
use Rattle.alternating_theory.proofs.Values.{in-front, in-back, in-map}
use Rattle.alternating_theory.proofs.Blocks.{with_block}
use Rattle.alternating_theory.proofs.Flips.{flipped-score, flipped-value, met-turned, not-twice}
use Rattle.alternating_theory.proofs.Pairs.{pair-score, left-start, right-start}
use Rattle.alternating_theory.proofs.Scores.{Scored}
use Rattle.alternating_theory.proofs.Singles.{single_value, single_found, single_whole, single-kind, single-within, single-step, single-at, single-sound, single, single-whole}
use Rattle.alternating_theory.proofs.Splits.{below-left, below-right, split-score, split-value}
use Rattle.alternating_theory.proofs.Starts.{met_at, ScoredPart, IsScored, IsStart, start-is, renamed, renamed-value, no-score}

now-scored : (offset : ℕ) (end : Truth) (b : Boolean) (c : Course) (n top bottom : ℕ) → Scored c n top bottom offset (end_of offset (now_part end b)) (numbered offset [])
now-scored offset end b c n top bottom = no-score c n top bottom offset (end_of offset (now_part end b)) (numbered offset []) (omega arith)

pub now-score : (offset : ℕ) (b : Boolean) → IsScored offset (now_part true b) (Now b)
now-score offset b c n top bottom course = record { score = now-scored offset true b c n top bottom; starts = λ p l. (λ h _. h, λ k. k refl) }

pub now_strong-score : (offset : ℕ) (b : Boolean) → IsScored offset (now_part false b) (NowStrong b)
now_strong-score offset b c n top bottom course = record { score = now-scored offset false b c n top bottom; starts = λ p l. (λ h. h, λ h. h) }

-- not f

module _ (offset : ℕ) (a : Part) (c : Course) (n top bottom : ℕ) (s : Scored (opposite c) n bottom top offset (end_of offset a) (numbered offset a.rest)) where
  many : end_of offset (not_part a) ≡ end_of offset a
  many = ap (λ k. offset + k) (length-map a.rest opposite_obligation)

  duals : (q : ℕ) → offset ≤ q → q < end_of offset a → numbered offset (not_part a).rest q ≡ opposite_obligation (numbered offset a.rest q)
  duals q l h = in-map opposite_obligation offset a.rest q l h

  not-scored : Scored c n top bottom offset (end_of offset (not_part a)) (numbered offset (not_part a).rest)
  not-scored = renamed c n top bottom offset (end_of offset a) (end_of offset (not_part a)) (λ q. opposite_obligation (numbered offset a.rest q)) (numbered offset (not_part a).rest) many duals
      (flipped-score c n top bottom offset (end_of offset a) (numbered offset a.rest) s)

  not-value : (p q : ℕ) → not-scored.value p q ≡ not (s.value p q)
  unfolding not-scored
  not-value p q =
      renamed-value c n top bottom offset (end_of offset a) (end_of offset (not_part a)) (λ q. opposite_obligation (numbered offset a.rest q)) (numbered offset (not_part a).rest) many duals
      (flipped-score c n top bottom offset (end_of offset a) (numbered offset a.rest) s) p q
      ∙ flipped-value c n top bottom offset (end_of offset a) (numbered offset a.rest) s p q

pub not-score : (offset : ℕ) (a : Part) (f : Formula) → IsScored offset a f → IsScored offset (not_part a) (Not f)
not-score offset a f scored c n top bottom course = record { score = not-scored offset a c n top bottom t.score; starts = λ p l. (there p l, back p l) }
  where
    t : ScoredPart (opposite c) n bottom top offset a f
    t = scored (opposite c) n bottom top (opposite-course c n top bottom course)

    value : ℕ → Truth
    value p = met_at (opposite c) a.start t.score.value p

    same : (p : ℕ) → met_at c (opposite_obligation a.start) (not-scored offset a c n top bottom t.score).value p ≡ not (value p)
    same p = met-turned a.start.delta (c.letter p) (λ r. (not-scored offset a c n top bottom t.score).value (c.next p) r) (λ r. t.score.value (c.next p) r)
        (λ r. ap (λ (u : Truth). not u) (not-value offset a c n top bottom t.score (c.next p) r) ∙ not-twice (t.score.value (c.next p) r))

    there : (p : ℕ) → p < n → IsTrue (met_at c (opposite_obligation a.start) (not-scored offset a c n top bottom t.score).value p) → Sat (read_from c p) (Not f) None
    there p l e h = both_ways (value p) (not-true (value p) (sym (same p) ∙ e)) ((t.starts p l).1 h)

    back : (p : ℕ) → p < n → Sat (read_from c p) (Not f) None → IsTrue (met_at c (opposite_obligation a.start) (not-scored offset a c n top bottom t.score).value p)
    back p l k = same p ∙ fails (value p) (λ e. k ((t.starts p l).0 e))

-- f && g

module _ (offset : ℕ) (a b : Part) where
  abbrev pub side : ℕ → Obligation
  side = numbered offset (a.rest ++ b.rest)

  pub side-left : (q : ℕ) → offset ≤ q → q < end_of offset a → numbered offset (a.rest ++ b.rest) q ≡ numbered offset a.rest q
  side-left q l h = in-front offset a.rest b.rest q l h

  pub side-right : (q : ℕ) → offset + length a.rest ≤ q → q < end_of (offset + length a.rest) b → numbered offset (a.rest ++ b.rest) q ≡ numbered (offset + length a.rest) b.rest q
  side-right q l h = in-back offset a.rest b.rest q l

pub and-score : (offset : ℕ) (a b : Part) (f g : Formula) → IsPartOf offset a f → IsPartOf (offset + length a.rest) b g → IsScored offset a f → IsScored (offset + length a.rest) b g
    → IsScored offset (and_part a b) (And f g)
and-score offset a b f g r s scored other c n top bottom course = record { score = pair; starts = λ p l. (there p l, back p l) }
  where
    t : ScoredPart c n top bottom offset a f
    t = scored c n top bottom course

    u : ScoredPart c n top bottom (offset + length a.rest) b g
    u = other c n top bottom course

    size : end_of offset (and_part a b) ≡ offset + length a.rest + length b.rest
    size = omega (arith, length-append a.rest b.rest)

    pair : Scored c n top bottom offset (end_of offset (and_part a b)) (numbered offset (a.rest ++ b.rest))
    pair = pair-score c n top bottom offset a b (numbered offset (a.rest ++ b.rest)) (end_of offset (and_part a b)) size (side-left offset a b) (side-right offset a b) t.score u.score

    first : (p : ℕ) → met_at c a.start pair.value p ≡ met_at c a.start t.score.value p
    first p = left-start c n top bottom offset a b (numbered offset (a.rest ++ b.rest)) (end_of offset (and_part a b)) size (side-left offset a b) (side-right offset a b) t.score u.score r.right p

    second : (p : ℕ) → met_at c b.start pair.value p ≡ met_at c b.start u.score.value p
    second p = right-start c n top bottom offset a b (numbered offset (a.rest ++ b.rest)) (end_of offset (and_part a b)) size (side-left offset a b) (side-right offset a b) t.score u.score s.right p

    there : (p : ℕ) → p < n → IsTrue (met_at c (and_part a b).start pair.value p) → Sat (read_from c p) (And f g) None
    there p l h =
        let parts = and_parts (met_at c a.start pair.value p) (met_at c b.start pair.value p) h in
        ((t.starts p l).0 (sym (first p) ∙ parts.0), (u.starts p l).0 (sym (second p) ∙ parts.1))

    back : (p : ℕ) → p < n → Sat (read_from c p) (And f g) None → IsTrue (met_at c (and_part a b).start pair.value p)
    back p l h = and_from (met_at c a.start pair.value p) (met_at c b.start pair.value p) (first p ∙ (t.starts p l).1 h.0) (second p ∙ (u.starts p l).1 h.1)

-- X! f

pub next-score : (offset : ℕ) (a : Part) (f : Formula) → IsPartOf offset a f → IsPlain f → IsScored offset a f → IsScored offset (next_part offset a) (Next f)
next-score offset a f r plain scored c n top bottom course = record { score = score; starts = λ p l. (there p l, back p l) }
  where
    t : ScoredPart c n top bottom offset a f
    t = scored c n top bottom course

    mid : ℕ
    mid = end_of offset a

    o : Obligation
    o = with_letter a.start

    look : ℕ → Obligation
    look = numbered offset (a.rest ++ with_letter a.start ∷ [])

    high : ℕ
    high = offset + length (a.rest ++ with_letter a.start ∷ [])

    size : high ≡ mid + 1
    size = omega (arith, length-append a.rest (with_letter a.start ∷ []))

    begins : offset ≤ mid
    begins = omega arith

    follows : mid ≤ high
    follows = omega (arith, size)

    front : (q : ℕ) → offset ≤ q → q < mid → look q ≡ numbered offset a.rest q
    front q l h = in-front offset a.rest (with_letter a.start ∷ []) q l h

    last : look mid ≡ o
    last = in-back offset a.rest (with_letter a.start ∷ []) mid (omega arith) ∙ first
      where
        first : numbered (offset + length a.rest) (with_letter a.start ∷ []) (offset + length a.rest) ≡ with_letter a.start
        first = let e : offset + length a.rest - (offset + length a.rest) ≡ 0 = omega arith in rw e refl

    old : Scored c n top bottom offset mid look
    old = renamed c n top bottom offset mid mid (numbered offset a.rest) look refl front t.score

    old-value : (p q : ℕ) → old.value p q ≡ t.score.value p q
    old-value p q = renamed-value c n top bottom offset mid mid (numbered offset a.rest) look refl front t.score p q

    within : OwesWithin offset high o.delta
    within = within-wider offset mid offset high (omega arith) (omega (arith, size)) a.start.delta r.right.start.within

    value : ℕ → Truth
    value p = single_value c n top bottom course offset mid high size begins look old.value o last within p

    whole : ℕ → ℕ → Truth
    whole p q = single_whole c n top bottom course offset mid high size begins look old.value o last within p q

    value-is : (p : ℕ) → p < n → value p ≡ met_at c a.start t.score.value p
    value-is p l =
        single-step c n top bottom course offset mid high size begins look old.value o last within p l
        ∙ met-same offset mid a.start.delta r.right.start.within (c.letter p) (λ q. whole (c.next p) q) (λ q. t.score.value (c.next p) q)
        (λ q x y. below-left mid q (old.value (c.next p) q) _ y ∙ old-value (c.next p) q)

    means : (p : ℕ) → p < n → IsTrue (value p) ↔ Sat (read_from c p) f None
    means p l = subst (λ (b : Truth). IsTrue b ↔ Sat (read_from c p) f None) (sym (value-is p l)) (t.starts p l)

    s : IsStart n top bottom a.start value
    s = start-is c n top bottom course offset a f r plain value means

    start : IsStart n top bottom o value
    start = record { at_top = s.at_top; at_bottom = s.at_bottom; up = s.up; down = s.down }

    score : Scored c n top bottom offset high look
    score = split-score c n top bottom offset mid high look old begins follows (single c n top bottom course offset mid high size begins look old.value o last within start)

    score-at : (p : ℕ) → score.value p mid ≡ value p
    score-at p =
        split-value c n top bottom offset mid high look old begins follows (single c n top bottom course offset mid high size begins look old.value o last within start) p mid
        ∙ single-whole c n top bottom course offset mid high size begins look old.value o last within start p mid
        ∙ single-at c n top bottom course offset mid high size begins look old.value o last within p

    there : (p : ℕ) → p < n → IsTrue (score.value (c.next p) mid) → Sat (read_from c p) (Next f) None
    there p l h = (refl, subst (λ (w : Trace). Sat w f None) (sym (suffix-next c p)) ((means (c.next p) (course.next_below p l)).0 (sym (score-at (c.next p)) ∙ h)))

    back : (p : ℕ) → p < n → Sat (read_from c p) (Next f) None → IsTrue (score.value (c.next p) mid)
    back p l h = score-at (c.next p) ∙ (means (c.next p) (course.next_below p l)).1 (subst (λ (w : Trace). Sat w f None) (suffix-next c p) h.1)

-- f U g

pub until-score : (offset : ℕ) (a b : Part) (f g : Formula) → IsPartOf offset a f → IsPartOf (offset + length a.rest) b g → IsPlain (Until f g)
    → IsScored offset a f → IsScored (offset + length a.rest) b g → IsScored offset (until_part offset a b) (Until f g)
until-score offset a b f g r s plain scored other c n top bottom course = record { score = score; starts = λ p l. starts p l }
  where
    t : ScoredPart c n top bottom offset a f
    t = scored c n top bottom course

    u : ScoredPart c n top bottom (offset + length a.rest) b g
    u = other c n top bottom course

    mid : ℕ
    mid = offset + (length a.rest + length b.rest)

    o : Obligation
    o = until_obligation mid a.start b.start

    look : ℕ → Obligation
    look = numbered offset ((a.rest ++ b.rest) ++ o ∷ [])

    high : ℕ
    high = offset + length ((a.rest ++ b.rest) ++ o ∷ [])

    pair-length : length (a.rest ++ b.rest) ≡ length a.rest + length b.rest
    pair-length = length-append a.rest b.rest

    size : high ≡ mid + 1
    size = omega (arith, pair-length, length-append (a.rest ++ b.rest) (o ∷ []))

    middle : mid ≡ offset + length a.rest + length b.rest
    middle = omega arith

    begins : offset ≤ mid
    begins = omega arith

    follows : mid ≤ high
    follows = omega (arith, size)

    front : (q : ℕ) → offset ≤ q → q < mid → look q ≡ numbered offset (a.rest ++ b.rest) q
    front q l h = in-front offset (a.rest ++ b.rest) (o ∷ []) q l (omega (arith, pair-length))

    left-look : (q : ℕ) → offset ≤ q → q < end_of offset a → look q ≡ numbered offset a.rest q
    left-look q l h = front q l (omega arith) ∙ side-left offset a b q l h

    right-look : (q : ℕ) → offset + length a.rest ≤ q → q < end_of (offset + length a.rest) b → look q ≡ numbered (offset + length a.rest) b.rest q
    right-look q l h = front q (omega arith) (omega arith) ∙ side-right offset a b q l h

    last : look mid ≡ o
    last = in-back offset (a.rest ++ b.rest) (o ∷ []) mid (omega (arith, pair-length)) ∙ first
      where
        first : numbered (offset + length (a.rest ++ b.rest)) (o ∷ []) mid ≡ o
        first = let e : mid - (offset + length (a.rest ++ b.rest)) ≡ 0 = omega (arith, pair-length) in rw e refl

    old : Scored c n top bottom offset mid look
    old = pair-score c n top bottom offset a b look mid middle left-look right-look t.score u.score

    first-within : OwesWithin offset mid a.start.delta
    first-within = within-wider offset (end_of offset a) offset mid (omega arith) (omega arith) a.start.delta r.right.start.within

    second-within : OwesWithin offset mid b.start.delta
    second-within = within-wider (offset + length a.rest) (end_of (offset + length a.rest) b) offset mid (omega arith) (omega arith) b.start.delta s.right.start.within

    within : OwesWithin offset high o.delta
    within = (
      within-wider offset mid offset high (omega arith) (omega (arith, size)) b.start.delta second-within,
      (within-wider offset mid offset high (omega arith) (omega (arith, size)) a.start.delta first-within, (omega arith, omega (arith, size))),
    )

    found : ℕ → Truth
    found p = single_found c n top bottom course offset mid high size begins look old.value o last within p

    whole : ℕ → ℕ → Truth
    whole p q = single_whole c n top bottom course offset mid high size begins look old.value o last within p q

    -- f and g at a place, where the numbers below have their values
    first-at : (p : ℕ) (value : ℕ → Truth) → ((q : ℕ) → q < mid → value q ≡ old.value (c.next p) q) → met a.start.delta (c.letter p) value ≡ met_at c a.start t.score.value p
    first-at p value e = met-same offset mid a.start.delta first-within (c.letter p) value (λ q. old.value (c.next p) q) (λ q x y. e q y)
        ∙ left-start c n top bottom offset a b look mid middle left-look right-look t.score u.score r.right p

    second-at : (p : ℕ) (value : ℕ → Truth) → ((q : ℕ) → q < mid → value q ≡ old.value (c.next p) q) → met b.start.delta (c.letter p) value ≡ met_at c b.start u.score.value p
    second-at p value e = met-same offset mid b.start.delta second-within (c.letter p) value (λ q. old.value (c.next p) q) (λ q x y. e q y)
        ∙ right-start c n top bottom offset a b look mid middle left-look right-look t.score u.score s.right p

    -- what the until asks, where the numbers below have their values
    asks : (p : ℕ) (value : ℕ → Truth) → ((q : ℕ) → q < mid → value q ≡ old.value (c.next p) q)
        → met o.delta (c.letter p) value ≡ (met_at c b.start u.score.value p || met_at c a.start t.score.value p && value mid)
    asks p value e = ap (λ (k : Truth). k || met a.start.delta (c.letter p) value && value mid) (second-at p value e)
        ∙ ap (λ (k : Truth). met_at c b.start u.score.value p || k && value mid) (first-at p value e)

    step : (p : ℕ) → p < n → found p ≡ (met_at c b.start u.score.value p || met_at c a.start t.score.value p && found (c.next p))
    step p l =
        single-step c n top bottom course offset mid high size begins look old.value o last within p l
        ∙ asks p (λ q. whole (c.next p) q) (λ q x. below-left mid q (old.value (c.next p) q) _ x)
        ∙ ap (λ (k : Truth). met_at c b.start u.score.value p || met_at c a.start t.score.value p && k)
        (single-at c n top bottom course offset mid high size begins look old.value o last within (c.next p))

    F : ℕ → Type 0
    F q = Sat (read_from c q) f None

    G : ℕ → Type 0
    G q = Sat (read_from c q) g None

    reaches-split : (p : ℕ) → p < n → (k : Truth) → (IsTrue k → Reaches c.next (λ q. Sat (read_from c q) f None) (λ q. Sat (read_from c q) g None) (c.next p))
        → IsTrue (met_at c b.start u.score.value p || met_at c a.start t.score.value p && k) → Reaches c.next (λ q. Sat (read_from c q) f None) (λ q. Sat (read_from c q) g None) p
    reaches-split p l k rec h = elim (or_cases (met_at c b.start u.score.value p) (met_at c a.start t.score.value p && k) h)
        as (λ _. Reaches c.next (λ q. Sat (read_from c q) f None) (λ q. Sat (read_from c q) g None) p) [
          | inl x ↦ reaches-here c.next F G p ((u.starts p l).0 x)
          | inr x ↦ (let parts = and_parts (met_at c a.start t.score.value p) k x in reaches-later c.next F G p ((t.starts p l).0 parts.0) (rec parts.1))
        ]

    sound : (p : ℕ) → p < n → IsTrue (found p) → Reaches c.next (λ q. Sat (read_from c q) f None) (λ q. Sat (read_from c q) g None) p
    sound = single-sound c n top bottom course offset mid high size begins look old.value o last within
        (λ p. Reaches c.next (λ q. Sat (read_from c q) f None) (λ q. Sat (read_from c q) g None) p) (λ m k p l v.
        reaches-split p l (with_block c n top bottom course offset mid high 1 size begins look old.value o.accepting
        (single-kind c n top bottom course offset mid high size begins look old.value o last within)
        (single-within c n top bottom course offset mid high size begins look old.value o last within) m (c.next p) mid)
        (λ x. k (c.next p) (course.next_below p l) (sym (at m p) ∙ x))
        (sym (asks p (λ q. with_block c n top bottom course offset mid high 1 size begins look old.value o.accepting
        (single-kind c n top bottom course offset mid high size begins look old.value o last within)
        (single-within c n top bottom course offset mid high size begins look old.value o last within) m (c.next p) q) (λ q x. below-left mid q (old.value (c.next p) q) _ x)) ∙ v))
      where
        at : (m : ℕ → ℕ → Truth) (p : ℕ) → with_block c n top bottom course offset mid high 1 size begins look old.value o.accepting
            (single-kind c n top bottom course offset mid high size begins look old.value o last within)
            (single-within c n top bottom course offset mid high size begins look old.value o last within) m (c.next p) mid ≡ m (c.next p) 0
        at m p = below-right mid mid (old.value (c.next p) mid) (m (c.next p) (mid - mid)) (omega arith)
            ∙ (let e : mid - mid ≡ 0 = omega arith in ap (λ i. m (c.next p) i) e)

    complete : (p : ℕ) → p < n → Reaches c.next (λ q. Sat (read_from c q) f None) (λ q. Sat (read_from c q) g None) p → IsTrue (found p)
    complete = reaches-least c.next F G n course.next_below (λ p. found p)
        (λ q l x. step q l ∙ or_left (met_at c b.start u.score.value q) (met_at c a.start t.score.value q && found (c.next q)) ((u.starts q l).1 x))
        (λ q l x y. step q l ∙ or_right (met_at c b.start u.score.value q) (met_at c a.start t.score.value q && found (c.next q))
        (and_from (met_at c a.start t.score.value q) (found (c.next q)) ((t.starts q l).1 x) y))

    means : (p : ℕ) → p < n → IsTrue (found p) ↔ Sat (read_from c p) (Until f g) None
    means p l = iff-trans (sound p l, complete p l) (reaches-until c f g p)

    start : IsStart n top bottom o (λ p. found p)
    start = start-is c n top bottom course offset (until_part offset a b) (Until f g) (until-is offset a b f g r s) plain (λ p. found p) means

    score : Scored c n top bottom offset high look
    score = split-score c n top bottom offset mid high look old begins follows (single c n top bottom course offset mid high size begins look old.value o last within start)

    score-is : (p q : ℕ) → score.value p q ≡ whole p q
    score-is p q =
        split-value c n top bottom offset mid high look old begins follows (single c n top bottom course offset mid high size begins look old.value o last within start) p q
        ∙ single-whole c n top bottom course offset mid high size begins look old.value o last within start p q

    starts : (p : ℕ) → p < n → IsTrue (met_at c o score.value p) ↔ Sat (read_from c p) (Until f g) None
    starts p l = subst (λ (k : Truth). IsTrue k ↔ Sat (read_from c p) (Until f g) None)
        (single-step c n top bottom course offset mid high size begins look old.value o last within p l
        ∙ sym (met-same offset high o.delta within (c.letter p) (λ q. score.value (c.next p) q) (λ q. whole (c.next p) q) (λ q x y. score-is (c.next p) q)))
        (means p l)
