-- The bits that the program keeps of a vector.
use Rattle.std.specs.Prelude.{ℕ, ◌+◌, ◌≤◌, ◌^◌, List, map}
use Rattle.psl_sugar.specs.Vectors.{only_bit, side_by_side}
use Rattle.psl_sugar.specs.declared.vector.Bit.{Bit}
use Rattle.psl_sugar.specs.declared.vector.Bits.{Bits}
use Rattle.psl_sugar.specs.declared.vector.Bits.TheVariants.{SideBySide, OfSignals}

abbrev pub bits_in : Bits → List Bit
bits_in (SideBySide signal lowest width) = side_by_side signal lowest width
bits_in (OfSignals signals) = map only_bit signals

-- the places of the bits are numbers of 32 bits
abbrev pub HavePlaces : Bits → Type 0
HavePlaces (SideBySide signal lowest width) = lowest + width ≤ 2 ^ 32
HavePlaces (OfSignals signals) = Unit {0}
