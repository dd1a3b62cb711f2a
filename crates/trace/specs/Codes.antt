-- The codes of a trace's signals: their numbers in base 94, in the bytes that a code may have (IEEE 1364, clause 18.2.3).
use Rattle.std.specs.Prelude.{ℕ, zero, suc, ◌+◌, ◌/◌, ◌%◌, ◌==◌, cond, List, [], ◌∷◌, map}
use Rattle.std.specs.List.{range_with_len}

-- the digits of a number in base 94, the lowest first, each as a byte from `!` on; at most so many
abbrev pub digits_of : ℕ → ℕ → List ℕ
digits_of zero number = []
digits_of (suc most) number = (33 + number % 94) ∷ cond (number / 94 == 0) [] (digits_of most (number / 94))

-- the code of a signal, by its number, which has no more than ten digits
abbrev pub code_of : ℕ → List ℕ
code_of number = digits_of 10 number

-- the codes of the first signals
abbrev pub codes_of : ℕ → List (List ℕ)
codes_of signals = map code_of (range_with_len 0 signals)
