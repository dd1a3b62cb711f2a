-- Runs that no list has any more. Those of one length are linked: each has the offset of the next in its first word.
use Rattle.std.specs.Prelude.{◌≡◌, ◌≢◌, ◌⊎◌, ℕ, ◌+◌, ◌<◌, ◌≤◌, ⊤, List, [], ◌∷◌}
use Rattle.std.specs.Prelude.{length, Option, slice_index, slice_set}
use Rattle.word_pool.specs.declared.free.TheConstants.{NO_RUN}
use Rattle.word_pool.specs.declared.runs.Run.{Run}
use Rattle.word_pool.specs.Layout.{offset_of, length_of}

-- an offset is one of these
abbrev pub IsOneOf : ℕ → List ℕ → Type 0
IsOneOf offset [] = ⊥
IsOneOf offset (other ∷ others) = (offset ≡ other) ⊎ IsOneOf offset others

-- none of the offsets stands there twice
abbrev pub IsOnce : List ℕ → Type 0
IsOnce [] = ⊤
IsOnce (offset ∷ offsets) = (IsOneOf offset offsets → ⊥) × IsOnce offsets

-- the runs that are linked from `first` on begin at these offsets
abbrev pub AreLinked : List ℕ → ℕ → List ℕ → Type 0
AreLinked words first [] = first ≡ NO_RUN
AreLinked words first (offset ∷ offsets) = (first ≡ offset) × AreLinked words (slice_index words offset) offsets

-- two runs, each with its offset and its size, share no word
abbrev pub AreApart : ℕ → ℕ → ℕ → ℕ → Type 0
AreApart offset size offset' size' = (offset + size ≤ offset') ⊎ (offset' + size' ≤ offset)

-- `runs` gives the offsets of the listed free runs by their size, and `firsts` the first of them. They lie in the
-- region, and share no word with the run of an id or with one another.
pub record IsFree (words firsts : List ℕ) (slots : List (Option Run)) : Type 0 where
  pub runs : ℕ → List ℕ
  pub linked : (size : ℕ) → size < length firsts → AreLinked words (slice_index firsts size) (runs size)
  pub listed : (size offset : ℕ) → IsOneOf offset (runs size) → (0 < size) × (size < length firsts)
  pub within : (size offset : ℕ) → IsOneOf offset (runs size) → offset + size ≤ length words
  pub not_live : (size offset id : ℕ) → IsOneOf offset (runs size) → 0 < length_of slots id
      → AreApart offset size (offset_of slots id) (length_of slots id)
  pub apart : (size offset size' offset' : ℕ) → IsOneOf offset (runs size) → IsOneOf offset' (runs size')
      → (size ≢ size') ⊎ (offset ≢ offset') → AreApart offset size offset' size'
  pub once : (size : ℕ) → IsOnce (runs size)

-- the table of first runs has more lengths, of which no run is listed
pub record AddsLengths (old new : List ℕ) : Type 0 where
  pub longer : length old ≤ length new
  pub kept : (size : ℕ) → size < length old → slice_index new size ≡ slice_index old size
  pub added : (size : ℕ) → length old ≤ size → size < length new → slice_index new size ≡ NO_RUN

-- a run becomes the first of its length, or is not listed
abbrev pub ListsRun : (words firsts : List ℕ) → Run → (words' firsts' : List ℕ) → Type 0
ListsRun words firsts run words' firsts' =
    ((0 < run.length) × (run.length < length firsts)
    × (words' ≡ slice_set words run.offset (slice_index firsts run.length))
    × (firsts' ≡ slice_set firsts run.length run.offset))
    ⊎ ((words' ≡ words) × (firsts' ≡ firsts))

-- a list is written at an offset, and no other word changes
pub record WritesList (words : List ℕ) (offset : ℕ) (list words' : List ℕ) : Type 0 where
  pub same_length : length words' ≡ length words
  pub inside : (k : ℕ) → k < length list → slice_index words' (offset + k) ≡ slice_index list k
  pub below : (k : ℕ) → k < offset → slice_index words' k ≡ slice_index words k
  pub above : (k : ℕ) → offset + length list ≤ k → slice_index words' k ≡ slice_index words k
