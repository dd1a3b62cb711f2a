-- Codes: the texts by which a recording names its signals.
use Rattle.std.specs.Prelude.{◌≡◌, ℕ, nat_le, Bool, ◌&&◌, List, Option, Some, is_none, slice_get}
use Rattle.std.specs.List.{list_all, position_from}
use Rattle.std.specs.Str.{bytes_eq}

-- a code: bytes `!` to `~`
abbrev pub is_code : List ℕ → Bool
is_code text = list_all (λ byte. nat_le 33 byte && nat_le byte 126) text

-- the place of a text among texts: that of the first equal one
abbrev pub place_of : List (List ℕ) → List ℕ → Option ℕ
place_of texts text = position_from (λ other. bytes_eq text other) 0 texts

-- the texts do not have it
abbrev pub is_new : List (List ℕ) → List ℕ → Bool
is_new texts text = is_none (place_of texts text)

-- no two of the texts are equal
abbrev pub AreDistinct : List (List ℕ) → Type 0
AreDistinct texts = (number : ℕ) (text : List ℕ) → slice_get texts number ≡ Some text → place_of texts text ≡ Some number
