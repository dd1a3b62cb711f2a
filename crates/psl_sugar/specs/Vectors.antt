-- Bits that are read as one number, as the list of them, the rightmost first.
use Rattle.std.specs.Prelude.{ℕ, List, map}
use Rattle.std.specs.List.{range_with_len}
use Rattle.psl_sugar.specs.declared.vector.Bit.{Bit}

abbrev pub bit_of_signal : ℕ → ℕ → Bit
bit_of_signal signal place = record { signal = signal; place = place }

-- so many bits of a signal that stand side by side, the rightmost at this place
abbrev pub side_by_side : ℕ → ℕ → ℕ → List Bit
side_by_side signal lowest width = map (bit_of_signal signal) (range_with_len lowest width)

-- the bit of a signal that has only one
abbrev pub only_bit : ℕ → Bit
only_bit signal = bit_of_signal signal 0
