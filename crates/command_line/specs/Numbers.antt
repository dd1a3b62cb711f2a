-- Numbers as words.
use Rattle.std.specs.Prelude.{◌≡◌, ◌≤◌, ℕ, List, Option, None, Some, decimal}

-- the word is the decimal form of a number from `least` to `most`, without a sign or a leading zero
pub record IsNumber (least most : ℕ) (word : List ℕ) (number : ℕ) : Type 0 where
  pub form : word ≡ decimal number
  pub above : least ≤ number
  pub below : number ≤ most

-- the word is given, and is such a number
abbrev pub IsGiven : ℕ → ℕ → Option (List ℕ) → ℕ → Type 0
IsGiven least most None number = ⊥
IsGiven least most (Some word) number = IsNumber least most word number
