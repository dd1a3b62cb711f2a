-- Comparisons of two unsigned numbers, each the bits of a vector or a value: a row for each (IEEE 1850, clause 5).
use Rattle.std.specs.Prelude.{ℕ, zero, suc, ◌-◌, max, Bool as Truth, false, if◌then◌else◌, length}
use Rattle.psl_tree.specs.Trees.{Boolean, Const, Not, And, Or}
use Rattle.psl_sugar.specs.Booleans.{bit_at, has_bit, conjunction_of}
use Rattle.psl_sugar.specs.declared.comparison.Comparison.{Comparison}
use Rattle.psl_sugar.specs.declared.comparison.Comparison.TheVariants as comparisons
use Rattle.psl_sugar.specs.declared.operand.Operand.{Operand}
use Rattle.psl_sugar.specs.declared.operand.Operand.TheVariants.{Bits, Value}

-- how many bits a side has of its own: a value has those of the other side
abbrev pub width_of : Operand → ℕ
width_of (Bits vector) = length vector
width_of (Value value) = 0

-- how many bits are compared: as many as the wider vector has
abbrev pub compared_width : Operand → Operand → ℕ
compared_width left right = max (width_of left) (width_of right)

-- the bit of a side
abbrev pub side_bit : Operand → ℕ → Boolean
side_bit (Bits vector) place = bit_at vector place
side_bit (Value value) place = Const (has_bit value place)

-- a bit as the bit of a value wants it: as it is for a 1, else negated
abbrev pub literal : Boolean → Truth → Boolean
literal bit is_one = if is_one then bit else Not bit

-- two bits are both 1, or both 0
abbrev pub alike : Boolean → Boolean → Boolean
alike left right = Or (And left right) (And (Not left) (Not right))

-- the two sides have the same bit at a place
abbrev pub same_bit : Operand → Operand → ℕ → Boolean
same_bit left (Value value) place = literal (side_bit left place) (has_bit value place)
same_bit (Value value) (Bits vector) place = literal (side_bit (Bits vector) place) (has_bit value place)
same_bit (Bits first) (Bits second) place = alike (side_bit (Bits first) place) (side_bit (Bits second) place)

-- the conjunction from the left of that at each place, the leftmost first, where this is the last one from the right
abbrev pub equality_from : Operand → Operand → ℕ → Boolean
equality_from left right leftmost = conjunction_of (λ more. same_bit left right (leftmost - more)) leftmost

abbrev pub equality : Operand → Operand → Boolean
equality left right = equality_from left right (compared_width left right - 1)

-- two bits decide, or else what is to the right of them
abbrev pub less_there : Boolean → Boolean → Boolean → Boolean
less_there left right rest = Or (And (Not left) right) (And (Or (Not left) right) rest)

-- the left side is less by its bits at so many places from the right
abbrev pub less_within : Operand → Operand → ℕ → Boolean
less_within left right zero = Const false
less_within left right (suc places) = less_there (side_bit left places) (side_bit right places) (less_within left right places)

abbrev pub less : Operand → Operand → Boolean
less left right = less_within left right (compared_width left right)

abbrev pub comparison_row : Comparison → Operand → Operand → Boolean
comparison_row comparisons.Equal left right = equality left right
comparison_row comparisons.Unequal left right = Not (equality left right)
comparison_row comparisons.Less left right = less left right
comparison_row comparisons.LessEqual left right = Not (less right left)
comparison_row comparisons.Greater left right = less right left
comparison_row comparisons.GreaterEqual left right = Not (less left right)
