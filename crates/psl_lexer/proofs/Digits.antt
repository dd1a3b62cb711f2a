-- The value of digits, read from the left.
use Rattle.std.proofs.Common.{ℕ, ◌+◌, ◌*◌, ◌≤◌, Bool, true, false, cond, nat_eq, List, [], ◌∷◌, arith}
use Rattle.psl_lexer.specs.Bytes.{digit_of}
use Rattle.psl_lexer.specs.Values.{with_digit, value_after}

by_test : (base number digit : ℕ) (b : Bool) → 1 ≤ base → number ≤ cond b number (number * base + digit)
by_test base number digit true h = omega arith
by_test base number digit false h = at base h where
  at : (base : ℕ) → 1 ≤ base → number ≤ number * base + digit
  at base h = grind arith

-- more digits make no smaller number
pub value_after-grows : (base before : ℕ) (bytes : List ℕ) → 1 ≤ base → before ≤ value_after base before bytes
value_after-grows base before [] h = omega arith
value_after-grows base before (byte ∷ bytes) h =
    let one = by_test base before (digit_of byte) (nat_eq byte 95) h in
    let more = value_after-grows base (with_digit base before byte) bytes h in
    omega (arith, one, more)
