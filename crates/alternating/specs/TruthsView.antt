-- What contracts see of packed truth values, and what they keep.
use Rattle.std.specs.Prelude.{◌≡◌, ℕ, zero, suc, ◌+◌, ◌*◌, ◌^◌, ◌<◌, ◌≤◌, Bool as Truth, false, List, [], ◌∷◌, length, slice_index}
use Rattle.alternating.specs.Packed.{is_set}
use Rattle.alternating.specs.declared.truths.Truths.TheInside.{Inside}

-- the values of a test at the first numbers
abbrev pub listed : ℕ → (ℕ → Truth) → List Truth
listed zero test = []
listed (suc count) test = test zero ∷ listed count (λ number. test (suc number))

abbrev pub truths_of : Inside → List Truth
truths_of inside = listed inside.count (is_set inside.words.items)

-- there is a bit for each value, in no more words than these need, and all other bits are 0: so lists of the same
-- values have the same words
pub record HasBits (inside : Inside) : Type 0 where
  pub room : inside.count ≤ 32 * length inside.words.items
  pub few : 32 * length inside.words.items < inside.count + 32
  pub clear : (number : ℕ) → inside.count ≤ number → is_set inside.words.items number ≡ false
  pub fits : (place : ℕ) → slice_index inside.words.items place < 2 ^ 32
