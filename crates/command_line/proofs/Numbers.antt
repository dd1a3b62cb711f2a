-- Numbers as words.
use Rattle.std.proofs.Common.{◌≡◌, ◌∙◌, ◌<◌, ◌^◌, sym, ℕ, List, Result, Ok, arith}
use Rattle.std.specs.Str.Parse.{ParsesUnsigned}
use Rattle.std.proofs.lemmas.Fmt.{parse-decimal, decimal_injective}
use Rattle.command_line.specs.Numbers.{IsNumber}

-- a word that is a number parses as it
pub parsed : {E : Type 0} (least most number : ℕ) (word : List ℕ) (result : Result ℕ E) → most < 2 ^ 32 → IsNumber least most word number
    → ParsesUnsigned 32 10 word result → result ≡ Ok number
parsed least most number word result fits is parses =
    let small : number < 2 ^ 32 = let below = is.below in omega arith in
    let wide : number < 2 ^ 64 = let below = is.below in omega arith in
    parse-decimal 32 number word result small wide is.form parses

-- a word is one number at most
pub one_number : (least most first second : ℕ) (word : List ℕ) → most < 2 ^ 32 → IsNumber least most word first → IsNumber least most word second → first ≡ second
one_number least most first second word fits one two =
    let a : first < 2 ^ 64 = let below = one.below in omega arith in
    let b : second < 2 ^ 64 = let below = two.below in omega arith in
    decimal_injective first second a b (sym one.form ∙ two.form)
