-- The score of two parts that stand beside one another.
use Rattle.std.proofs.Common.{◌≡◌, refl, ◌∙◌, ℕ, ◌+◌, ◌≤◌, ◌<◌, length, arith}
use Rattle.alternating_theory.specs.Courses.{Course}
use Rattle.alternating_theory.specs.Construction.{Part}
use Rattle.alternating_theory.specs.Obligations.{Obligation, numbered}
use Rattle.alternating_theory.proofs.MetLaws.{met-same}
use Rattle.alternating_theory.proofs.Parts.{end_of, IsRight}
use Rattle.alternating_theory.proofs.Scores.{Scored}
use Rattle.alternating_theory.proofs.Splits.{split-score, split-left, split-right, apart, apart-value}
use Rattle.alternating_theory.proofs.Starts.{met_at, renamed, renamed-value}

module _ (c : Course) (n top bottom offset : ℕ) (a b : Part) (look : ℕ → Obligation) (high : ℕ) (size : high ≡ offset + length a.rest + length b.rest)
    (left-same : (q : ℕ) → offset ≤ q → q < end_of offset a → look q ≡ numbered offset a.rest q)
    (right-same : (q : ℕ) → offset + length a.rest ≤ q → q < end_of (offset + length a.rest) b → look q ≡ numbered (offset + length a.rest) b.rest q)
    (s : Scored c n top bottom offset (end_of offset a) (numbered offset a.rest))
    (t : Scored c n top bottom (offset + length a.rest) (end_of (offset + length a.rest) b) (numbered (offset + length a.rest) b.rest)) where
  abbrev mid : ℕ
  mid = offset + length a.rest

  begins : offset ≤ offset + length a.rest
  begins = omega arith

  follows : offset + length a.rest ≤ high
  follows = omega (arith, size)

  left : Scored c n top bottom offset mid look
  left = renamed c n top bottom offset mid mid (numbered offset a.rest) look refl left-same s

  right : Scored c n top bottom mid high look
  right = renamed c n top bottom mid (end_of mid b) high (numbered mid b.rest) look size right-same t

  pub pair-score : Scored c n top bottom offset high look
  pair-score = split-score c n top bottom offset mid high look left begins follows
      (apart c n top bottom offset mid high look left.value begins right)

  pub pair-left : (p q : ℕ) → q < mid → pair-score.value p q ≡ s.value p q
  unfolding pair-score left
  pair-left p q h =
      split-left c n top bottom offset mid high look left begins follows (apart c n top bottom offset mid high look left.value begins right) p q h
      ∙ renamed-value c n top bottom offset mid mid (numbered offset a.rest) look refl left-same s p q

  pub pair-right : (p q : ℕ) → mid ≤ q → pair-score.value p q ≡ t.value p q
  unfolding pair-score right
  pair-right p q h =
      split-right c n top bottom offset mid high look left begins follows (apart c n top bottom offset mid high look left.value begins right) p q h
      ∙ apart-value c n top bottom offset mid high look left.value begins right p q
      ∙ renamed-value c n top bottom mid (end_of mid b) high (numbered mid b.rest) look size right-same t p q

  pub left-start : IsRight offset a → (p : ℕ) → met_at c a.start pair-score.value p ≡ met_at c a.start s.value p
  left-start r p = met-same offset (end_of offset a) a.start.delta r.start.within (c.letter p) (pair-score.value (c.next p)) (s.value (c.next p)) (λ q x y. pair-left (c.next p) q y)

  pub right-start : IsRight mid b → (p : ℕ) → met_at c b.start pair-score.value p ≡ met_at c b.start t.value p
  right-start r p = met-same mid (end_of mid b) b.start.delta r.start.within (c.letter p) (pair-score.value (c.next p)) (t.value (c.next p)) (λ q x y. pair-right (c.next p) q x)
