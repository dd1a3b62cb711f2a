-- Values at 64 places, as words: the lowest bit is the value at the first place.
use Rattle.std.specs.Prelude.{ℕ, List, slice_index_or}
use Rattle.alternating_blocks.specs.declared.words.Words.{Words}

-- what holds of the words of each view
pub record InEachView (P : (Words → ℕ) → Type 0) : Type 0 where
  pub weak : P (λ words. words.weak)
  pub neutral : P (λ words. words.neutral)
  pub strong : P (λ words. words.strong)

-- words in which no value is true
abbrev pub unset : Words
unset = record { weak = 0; neutral = 0; strong = 0 }

-- the words of an obligation, by its number
abbrev pub words_at : List Words → ℕ → Words
words_at words number = slice_index_or words number unset
