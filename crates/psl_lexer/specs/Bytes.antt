-- The kinds of bytes that tokens are made of (IEEE 1850, clause 4.2).
use Rattle.std.specs.Prelude.{ℕ, ◌-◌, Bool, ◌==◌, ◌&&◌, ◌||◌, not, nat_le, nat_lt, if◌then◌else◌, Option, Some, None}
pub use Rattle.psl_base.specs.Bytes.{is_white, is_digit}

-- a byte that is no white space
unfoldable pub is_solid : ℕ → Bool
is_solid byte = not (is_white byte)

-- a byte that ends no line
unfoldable pub is_inline : ℕ → Bool
is_inline byte = not (byte == 10)

-- what a name may begin with: a letter or `_`
unfoldable pub begins_name : ℕ → Bool
begins_name byte = (nat_le 65 byte && nat_le byte 90) || (nat_le 97 byte && nat_le byte 122) || (byte == 95)

-- what a name may go on with: a letter, `_`, a digit or `$`
unfoldable pub continues_name : ℕ → Bool
continues_name byte = begins_name byte || is_digit byte || (byte == 36)

-- what a number may go on with: a digit or `_`
unfoldable pub continues_number : ℕ → Bool
continues_number byte = is_digit byte || (byte == 95)

-- the base that the letter of a constant names
unfoldable pub base_of : ℕ → Option ℕ
base_of letter =
    if (letter == 98) || (letter == 66) then Some 2
    else if (letter == 111) || (letter == 79) then Some 8
    else if (letter == 100) || (letter == 68) then Some 10
    else if (letter == 104) || (letter == 72) then Some 16
    else None

-- the value of a digit of any base, and 16 at a byte that is a digit of none
unfoldable pub digit_of : ℕ → ℕ
digit_of byte =
    if nat_le 48 byte && nat_le byte 57 then byte - 48
    else if nat_le 65 byte && nat_le byte 70 then byte - 55
    else if nat_le 97 byte && nat_le byte 102 then byte - 87
    else 16

-- a digit of a base
unfoldable pub is_digit_of : ℕ → ℕ → Bool
is_digit_of base byte = nat_lt (digit_of byte) base

-- what a constant of a base may go on with: a digit of the base, or `_`
unfoldable pub continues_digits : ℕ → ℕ → Bool
continues_digits base byte = is_digit_of base byte || (byte == 95)
