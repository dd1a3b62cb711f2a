-- A table of texts of one byte and of two.
use Rattle.std.specs.Prelude.{◌≡◌, ℕ, ◌+◌, ◌-◌, ◌*◌, ◌<◌, ◌==◌, cond, List, [], ◌∷◌, length, slice_index, slice_set, Option, None, Some}
use Rattle.vcd_reader.specs.Labels.{place_of}

-- the place of a text in the table
abbrev pub short_place : List ℕ → Option ℕ
short_place [] = None
short_place (first ∷ []) = Some first
short_place (first ∷ second ∷ []) = Some (256 + first * 256 + second)
short_place (first ∷ second ∷ third ∷ rest) = None

-- the number that an entry has: it is 1 more, or 0 where there is none
abbrev pub number_of : ℕ → Option ℕ
number_of entry = cond (entry == 0) None (Some (entry - 1))

-- the table with an entry more
abbrev pub noted : List ℕ → Option ℕ → ℕ → List ℕ
noted short None entry = short
noted short (Some at) entry = slice_set short at entry

-- each number is below 256
abbrev pub AreBytes : List ℕ → Type 0
AreBytes text = (k : ℕ) → slice_index text k < 256

-- the table has the place of each short text among the texts
pub record IsShortTable (short : List ℕ) (texts : List (List ℕ)) : Type 0 where
  pub sized : length short ≡ 65_792
  pub places : (text : List ℕ) (at : ℕ) → AreBytes text → short_place text ≡ Some at → number_of (slice_index short at) ≡ place_of texts text
