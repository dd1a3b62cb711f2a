-- The numbers that the two sides of a comparison are on a letter, and what a comparison says of two numbers.
use Rattle.std.specs.Prelude.{◌≡◌, ℕ, ◌^◌, ◌<◌, ◌==◌, nat_lt, nat_le, Bool as Truth, not, if◌then◌else◌, List, length, map}
use Rattle.std.specs.List.{sum, range_with_len}
use Rattle.psl_tree.specs.Holds.{holds}
use Rattle.psl_tree.specs.declared.atom.Atom.{Atom}
use Rattle.psl_tree.specs.declared.letter.Letter.{Letter}
use Rattle.psl_tree.specs.declared.letter.Letter.TheVariants.{Holds}
use Rattle.psl_sugar.specs.Booleans.{bit_at}
use Rattle.psl_sugar.specs.Comparisons.{compared_width, comparison_row}
use Rattle.psl_sugar.specs.declared.comparison.Comparison.{Comparison}
use Rattle.psl_sugar.specs.declared.comparison.Comparison.TheVariants as comparisons
use Rattle.psl_sugar.specs.declared.operand.Operand.{Operand}
use Rattle.psl_sugar.specs.declared.operand.Operand.TheVariants.{Bits, Value}

-- the number that so many bits are: a bit that is 1 counts 2 to the power of its place
abbrev pub number_of_bits : (ℕ → Truth) → ℕ → ℕ
number_of_bits is_one width = sum (map (λ place. if is_one place then 2 ^ place else 0) (range_with_len 0 width))

-- the number that a side is on a letter
abbrev pub number_on : Letter → Operand → ℕ
number_on letter (Bits vector) = number_of_bits (λ place. holds letter (bit_at vector place)) (length vector)
number_on letter (Value value) = value

-- a side needs no more bits than these
abbrev pub FitsIn : ℕ → Operand → Type 0
FitsIn width (Bits vector) = Unit {0}
FitsIn width (Value value) = value < 2 ^ width

-- two numbers compare so
abbrev pub compares : Comparison → ℕ → ℕ → Truth
compares comparisons.Equal left right = left == right
compares comparisons.Unequal left right = not (left == right)
compares comparisons.Less left right = nat_lt left right
compares comparisons.LessEqual left right = nat_le left right
compares comparisons.Greater left right = nat_lt right left
compares comparisons.GreaterEqual left right = nat_le right left

-- On a letter that is neither Top nor Bottom, a comparison holds exactly where the two numbers compare so.
abbrev pub ComparesNumbers : Type 0
ComparesNumbers =
    (comparison : Comparison) (left right : Operand) (atoms : List Atom) → FitsIn (compared_width left right) left → FitsIn (compared_width left right) right
    → holds (Holds atoms) (comparison_row comparison left right) ≡ compares comparison (number_on (Holds atoms) left) (number_on (Holds atoms) right)
