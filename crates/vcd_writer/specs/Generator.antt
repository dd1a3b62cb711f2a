-- The linear congruential generator that gives a made recording its values.
use Rattle.std.specs.Prelude.{ℕ, zero, suc, ◌+◌, ◌*◌, ◌/◌, ◌%◌, ◌^◌, ◌==◌, Bool, false}

-- the number after one
abbrev pub number_after : ℕ → ℕ
number_after number = (number * 1103515245 + 12345) % 2 ^ 31

-- the numbers: the seed, then each from the one before it
abbrev pub number_at : ℕ → ℕ → ℕ
number_at seed zero = seed
number_at seed (suc place) = number_after (number_at seed place)

-- bit 16 of a number
abbrev pub bit_16 : ℕ → Bool
bit_16 number = ((number / 2 ^ 16) % 2) == 1

-- whether there is a request at a sample: bit 16 of the number behind it
abbrev pub request_at : ℕ → ℕ → Bool
request_at seed sample = bit_16 (number_at seed (suc sample))

-- whether there is an answer at a sample: there is one where a request was at the sample before
abbrev pub answer_at : ℕ → ℕ → Bool
answer_at seed zero = false
answer_at seed (suc sample) = request_at seed sample
