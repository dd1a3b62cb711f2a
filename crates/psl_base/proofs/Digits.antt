-- Decimal digits, read from the left up to a number.
use Rattle.std.proofs.Common.{◌≡◌, ℕ, ◌+◌, ◌-◌, ◌*◌, ◌<◌, ◌≤◌, Bool, true, false, cond, nat_le, List, [], ◌∷◌, length, None, Some, refl, sym, ap, ◌∙◌, arith}
use Rattle.std.proofs.lemmas.Bool.{le-leb, leb-false, lt-leb, and_right, and_from, cond-true, cond-false}
use Rattle.std.specs.List.{list_all}
use Rattle.psl_base.specs.Bytes.{is_digit}
use Rattle.psl_base.specs.Decimals.{are_digits, number_after, decimal_upto}

-- more digits make no smaller number
pub number_after-grows : (before : ℕ) (digits : List ℕ) → before ≤ number_after before digits
number_after-grows before [] = omega arith
number_after-grows before (digit ∷ digits) = omega (arith, number_after-grows (before * 10 + (digit - 48)) digits)

are_digits-from : (text : List ℕ) → 0 < length text → list_all is_digit text ≡ true → are_digits text ≡ true
are_digits-from [] some each = absurd (omega arith)
are_digits-from (byte ∷ bytes) some each = each

-- the digits say a number that is too large
pub decimal_upto-past : (most : ℕ) (text : List ℕ) → most < number_after 0 text → decimal_upto most text ≡ None
decimal_upto-past most text past = cond-false _ _ _ (and_right (are_digits text) _ (lt-leb _ _ past))

-- the digits say a number that is not too large
pub decimal_upto-within : (most number : ℕ) (text : List ℕ) → 0 < length text → list_all is_digit text ≡ true → number ≡ number_after 0 text → number ≤ most → Some number ≡ decimal_upto most text
decimal_upto-within most number text some each says within =
    let below : number_after 0 text ≤ most = omega (arith, says, within) in
    ap Some says ∙ sym (cond-true _ (Some (number_after 0 text)) None (and_from (are_digits text) (nat_le (number_after 0 text) most) (are_digits-from text some each) (le-leb _ _ below)))

by_test : (b : Bool) (number : ℕ) → None ≡ cond b (Some number) None → b ≡ false
by_test true number e = cc
by_test false number e = refl

-- a number that was not given is too large
pub past_most : (most number : ℕ) → None ≡ cond (nat_le number most) (Some number) None → most < number
past_most most number none = leb-false number most (by_test (nat_le number most) number none)
