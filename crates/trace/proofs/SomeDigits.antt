-- A text that is not empty.
use Rattle.std.proofs.Common.{◌≡◌, refl, ℕ, ◌<◌, List, [], ◌∷◌, length, arith}
use Rattle.std.specs.List.{list_all}
use Rattle.psl_base.specs.Bytes.{is_digit}
use Rattle.psl_base.specs.Decimals.{are_digits}

pub some_digits : (text : List ℕ) → 0 < length text → are_digits text ≡ list_all is_digit text
some_digits [] some = absurd (omega arith)
some_digits (byte ∷ bytes) some = refl
