-- Positive combinations: what an obligation asks of a letter and of the obligations at the next place.
use Rattle.std.specs.Prelude.{Bool as Truth, false, not, ◌&&◌, ◌||◌, ◌==◌, ◌≤◌, ◌<◌, ℕ}
use Rattle.psl_tree.specs.Holds.{holds}
use Rattle.psl_tree.specs.Trees.{Boolean}
use Rattle.psl_tree.specs.declared.letter.Letter.{Letter}
use Rattle.alternating_theory.specs.Literals.{negated}

-- a constant, a Boolean on the letter, an obligation at the next place by its number, or two
-- combinations of which both or one must be met
pub data Positive : Type 0 where
  Const : Truth → Positive
  Holds : Boolean → Positive
  Owed : ℕ → Positive
  And : Positive → Positive → Positive
  Or : Positive → Positive → Positive

-- whether a letter meets the combination, where `next` gives the values at the next place
abbrev pub met : Positive → Letter → (ℕ → Truth) → Truth
met (Const value) letter next = value
met (Holds test) letter next = holds letter test
met (Owed number) letter next = next number
met (And left right) letter next = met left letter next && met right letter next
met (Or left right) letter next = met left letter next || met right letter next

-- the combination owes the obligation of this number
abbrev pub owes : Positive → ℕ → Truth
owes (Const _) number = false
owes (Holds _) number = false
owes (Owed other) number = other == number
owes (And left right) number = owes left number || owes right number
owes (Or left right) number = owes left number || owes right number

-- each number that the combination owes is at least low and below high
abbrev pub OwesWithin : ℕ → ℕ → Positive → Type 0
OwesWithin low high (Const _) = Unit {0}
OwesWithin low high (Holds _) = Unit {0}
OwesWithin low high (Owed number) = (low ≤ number) × (number < high)
OwesWithin low high (And left right) = OwesWithin low high left × OwesWithin low high right
OwesWithin low high (Or left right) = OwesWithin low high left × OwesWithin low high right

-- the combination with other numbers
abbrev pub renumbered : (ℕ → ℕ) → Positive → Positive
renumbered new (Const value) = Const value
renumbered new (Holds test) = Holds test
renumbered new (Owed number) = Owed (new number)
renumbered new (And left right) = And (renumbered new left) (renumbered new right)
renumbered new (Or left right) = Or (renumbered new left) (renumbered new right)

-- the dual: "and" and "or" change places, and constants and Booleans are negated
abbrev pub opposite : Positive → Positive
opposite (Const value) = Const (not value)
opposite (Holds test) = Holds (negated test)
opposite (Owed number) = Owed number
opposite (And left right) = Or (opposite left) (opposite right)
opposite (Or left right) = And (opposite left) (opposite right)
