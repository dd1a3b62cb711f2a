-- The region in the middle of a compaction: the id of each list stands in the place of its first word.
use Rattle.std.specs.Prelude.{◌≡◌, ℕ, zero, suc, ◌+◌, ◌<◌, ◌≤◌, List, length, Option, Some, None, is_some, slice_index}
use Rattle.word_pool.specs.declared.runs.Run.{Run}
use Rattle.word_pool.specs.Layout.{run_at, offset_of, length_of, IsLaidOut}

-- the first word of a slot's list, where its id stands in the region
abbrev pub slot_head : Option Run → ℕ
slot_head None = 0
slot_head (Some run) = run.head

-- the word of an id's list at a place, where the id stands in the region in place of the first
abbrev pub marked_word : List ℕ → List (Option Run) → ℕ → ℕ → ℕ
marked_word words slots id zero = slot_head (run_at slots id)
marked_word words slots id (suc k) = slice_index words (offset_of slots id + suc k)

-- each list with words has its id in the place of its first word, and an empty one begins at 0
pub record IsMarked (words : List ℕ) (slots : List (Option Run)) : Type 0 where
  pub laid_out : IsLaidOut words slots
  pub has_id : (id : ℕ) → 0 < length_of slots id → slice_index words (offset_of slots id) ≡ id
  pub empty_first : (id : ℕ) → length_of slots id ≡ 0 → offset_of slots id ≡ 0

-- the same ids have runs, of the same lengths
pub record HasLengthsOf (old new : List (Option Run)) : Type 0 where
  pub size : length new ≡ length old
  pub live : (id : ℕ) → is_some (run_at new id) ≡ is_some (run_at old id)
  pub lengths : (id : ℕ) → length_of new id ≡ length_of old id

-- the run of `size` words at `from` is copied to `to`, with `head` as its first word, and no other word changes
pub record MovesWords (words : List ℕ) (from to size head : ℕ) (words' : List ℕ) : Type 0 where
  pub same_length : length words' ≡ length words
  pub first : slice_index words' to ≡ head
  pub rest : (k : ℕ) → 0 < k → k < size → slice_index words' (to + k) ≡ slice_index words (from + k)
  pub below : (k : ℕ) → k < to → slice_index words' k ≡ slice_index words k
  pub above : (k : ℕ) → to + size ≤ k → slice_index words' k ≡ slice_index words k
