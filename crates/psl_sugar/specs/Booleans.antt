-- Boolean expressions that stand for others (IEEE 1850, clause 5). Each equation is a row of the table.
use Rattle.std.specs.Prelude.{ℕ, zero, suc, ◌-◌, ◌/◌, ◌%◌, ◌^◌, ◌==◌, Bool as Truth, false, not, List, length, slice_get, Option, None, Some}
use Rattle.psl_tree.specs.Trees.{Boolean, Const, Test, Not, And, Or}
use Rattle.psl_tree.specs.declared.atom.Edge.TheVariants.{Value}
use Rattle.psl_sugar.specs.declared.vector.Bit.{Bit}

-- b -> c: !b || c
abbrev pub boolean_implication : Boolean → Boolean → Boolean
boolean_implication left right = Or (Not left) right

-- b <-> c: (!b || c) && (!c || b)
abbrev pub boolean_iff : Boolean → Boolean → Boolean
boolean_iff left right = And (boolean_implication left right) (boolean_implication right left)

-- a number: true exactly where it is not 0
abbrev pub number : ℕ → Boolean
number value = Const (not (value == 0))

-- a bit, where there is one, or a zero
abbrev pub bit_or_zero : Option Bit → Boolean
bit_or_zero None = Const false
bit_or_zero (Some bit) = Test (record { signal = bit.signal; bit = bit.place; edge = Value })

-- the bit of a vector at a place, counted from the right, from 0, or a zero on its left
abbrev pub bit_at : List Bit → ℕ → Boolean
bit_at vector place = bit_or_zero (slice_get vector place)

-- a bit of a vector, counted from the leftmost one
abbrev pub bit_of : List Bit → ℕ → Boolean
bit_of vector bit = bit_at vector (length vector - 1 - bit)

-- whether a number's bit is 1, counted from the right
abbrev pub has_bit : ℕ → ℕ → Truth
has_bit value place = (value / 2 ^ place) % 2 == 1

-- the conjunction from the left of part 0 and so many parts after it
abbrev pub conjunction_of : (ℕ → Boolean) → ℕ → Boolean
conjunction_of part zero = part 0
conjunction_of part (suc more) = And (conjunction_of part more) (part (suc more))

-- the disjunction from the left of part 0 and so many parts after it
abbrev pub disjunction_of : (ℕ → Boolean) → ℕ → Boolean
disjunction_of part zero = part 0
disjunction_of part (suc more) = Or (disjunction_of part more) (part (suc more))

-- a vector as a Boolean: the disjunction from the left of its bits, the leftmost bit first
abbrev pub some_bit : List Bit → Boolean
some_bit vector = disjunction_of (bit_of vector) (length vector - 1)
