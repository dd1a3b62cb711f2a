-- Scores: which obligations are true at which places of a course, and why. Each number has a level;
-- within a level all are accepting or none is. What is true of an obligation that is not accepting, and
-- what is false of one that is, has a rank: it rests on what is at a lower level or of a lower rank.
use Rattle.std.proofs.Common.{◌≡◌, ◌⊎◌, ℕ, ◌≤◌, ◌<◌, Bool as Truth, true, false}
use Rattle.std.specs.Prelude.{IsTrue, not, ◌&&◌, ◌||◌, nat_lt}
use Rattle.alternating_theory.specs.Courses.{Course}
use Rattle.alternating_theory.specs.Obligations.{Obligation}
use Rattle.alternating_theory.specs.Positive.{met, owes, OwesWithin}

-- an obligation at a place is at a lower level than another, or of a lower rank
abbrev pub lower : (ℕ → ℕ) → (ℕ → ℕ → ℕ) → ℕ → ℕ → ℕ → ℕ → Truth
lower level rank p q next r = nat_lt (level r) (level q) || nat_lt (rank next r) (rank p q)

-- the values at the two ends of the course are those on Top for ever and on Bottom for ever, and each
-- value lies between them
pub record AtEnds (n top bottom low high : ℕ) (look : ℕ → Obligation) (value : ℕ → ℕ → Truth) : Type 0 where
  pub at_top : (q : ℕ) → low ≤ q → q < high → value top q ≡ (look q).top
  pub at_bottom : (q : ℕ) → low ≤ q → q < high → value bottom q ≡ (look q).bottom
  pub up : (p q : ℕ) → p < n → low ≤ q → q < high → IsTrue (value p q) → IsTrue (look q).top
  pub down : (p q : ℕ) → p < n → low ≤ q → q < high → IsTrue (look q).bottom → IsTrue (value p q)

-- the numbers from low on and below high, of which look gives the obligations
pub record Scored (c : Course) (n top bottom low high : ℕ) (look : ℕ → Obligation) : Type 0 where
  pub value : ℕ → ℕ → Truth
  pub level : ℕ → ℕ
  pub rank : ℕ → ℕ → ℕ
  pub height : ℕ
  pub within : (q : ℕ) → low ≤ q → q < high → OwesWithin low high (look q).delta
  pub step : (p q : ℕ) → p < n → low ≤ q → q < high → value p q ≡ met (look q).delta (c.letter p) (value (c.next p))
  pub wins : (p q : ℕ) → p < n → low ≤ q → q < high → (look q).accepting ≡ false → value p q ≡ true
      → met (look q).delta (c.letter p) (λ r. value (c.next p) r && lower level rank p q (c.next p) r) ≡ true
  pub loses : (p q : ℕ) → p < n → low ≤ q → q < high → (look q).accepting ≡ true → value p q ≡ false
      → met (look q).delta (c.letter p) (λ r. value (c.next p) r || not (lower level rank p q (c.next p) r)) ≡ false
  pub falls : (q r : ℕ) → low ≤ q → q < high → IsTrue (owes (look q).delta r)
      → (level r < level q) ⊎ ((level r ≡ level q) × ((look r).accepting ≡ (look q).accepting))
  pub beneath : (q : ℕ) → low ≤ q → q < high → level q < height
  pub ends : AtEnds n top bottom low high look value
