-- The order in which the words of obligations are found: that its numbers are in range.
use Rattle.std.specs.Prelude.{◌≡◌, ◌<◌, ℕ, List, length, All}
use Rattle.std.proofs.Common.{Vec, Global}
use Rattle.alternating_blocks.specs.declared.order.Order.{Order}
use Rattle.alternating_blocks.specs.declared.order.Visit.{Visit}
use Rattle.alternating_blocks.specs.declared.order.Visit.TheVariants.{Enter, Leave}

-- each number of these lists is below a bound
abbrev pub AreWithin : ℕ → List (Vec ℕ Global) → Type 0
AreWithin bound lists = All (λ numbers. All (λ number. number < bound) numbers.items) lists

-- an obligation is entered, or left, that there is
abbrev pub IsWithin : ℕ → Visit → Type 0
IsWithin count (Enter number) = number < count
IsWithin count (Leave number) = number < count

abbrev pub VisitsWithin : ℕ → List Visit → Type 0
VisitsWithin count visits = All (IsWithin count) visits

-- the turns are those of obligations, and of each obligation there are turns
pub record IsOrder (count : ℕ) (order : Order) : Type 0 where
  pub turns : All (λ number. number < count) order.turns.items
  pub owers : length order.owers.items ≡ count
  pub within : AreWithin (length order.turns.items) order.owers.items
