-- Decimal numbers in texts.
use Rattle.std.specs.Prelude.{ℕ, ◌+◌, ◌-◌, ◌*◌, ◌==◌, nat_le, Bool, false, ◌&&◌, cond, List, [], ◌∷◌, Option, None, Some}
use Rattle.std.specs.List.{list_all}
use Rattle.psl_base.specs.Bytes.{is_digit}

-- the number that digits say, with a number before them
abbrev pub number_after : ℕ → List ℕ → ℕ
number_after before [] = before
number_after before (digit ∷ digits) = number_after (before * 10 + (digit - 48)) digits

-- at least one digit, and no other byte
abbrev pub are_digits : List ℕ → Bool
are_digits [] = false
are_digits (byte ∷ bytes) = list_all is_digit (byte ∷ bytes)

-- the number that a text says in decimal digits, of which there may be any number, where it is at most so large
abbrev pub decimal_upto : ℕ → List ℕ → Option ℕ
decimal_upto most text = cond (are_digits text && nat_le (number_after 0 text) most) (Some (number_after 0 text)) None

-- a digit 0 stands before other bytes
abbrev pub leads_with_zero : List ℕ → Bool
leads_with_zero [] = false
leads_with_zero (first ∷ []) = false
leads_with_zero (first ∷ second ∷ rest) = first == 48

-- the same of a number without leading zeros
abbrev pub plain_upto : ℕ → List ℕ → Option ℕ
plain_upto most text = cond (leads_with_zero text) None (decimal_upto most text)
