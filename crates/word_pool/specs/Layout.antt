-- Where the lists of a pool lie in its region. A slot of the table is the run of its id, or None.
use Rattle.std.specs.Prelude.{◌≡◌, ◌≢◌, ℕ, suc, ◌+◌, ◌<◌, ◌≤◌, List, [], ◌∷◌, length, take, drop}
use Rattle.std.specs.Prelude.{Option, Some, None, is_some, slice_index, slice_index_or}
use Rattle.std.specs.List.{sum_by, count_by}
use Rattle.std.specs.Ordering.{nat_cmp}
use Rattle.std.specs.FinMap.{FinMap, empty, insert}
use Rattle.word_pool.specs.declared.runs.Run.{Run}

-- the slot of an id, which is None past the table
abbrev pub run_at : List (Option Run) → ℕ → Option Run
run_at slots id = slice_index_or slots id None

-- where the run of a slot begins
abbrev pub slot_offset : Option Run → ℕ
slot_offset None = 0
slot_offset (Some run) = run.offset

-- how many words a slot has
abbrev pub slot_length : Option Run → ℕ
slot_length None = 0
slot_length (Some run) = run.length

-- where the run of an id begins
abbrev pub offset_of : List (Option Run) → ℕ → ℕ
offset_of slots id = slot_offset (run_at slots id)

-- how many words an id has
abbrev pub length_of : List (Option Run) → ℕ → ℕ
length_of slots id = slot_length (run_at slots id)

-- the words of a run
abbrev pub run_words : List ℕ → Run → List ℕ
run_words words run = take run.length (drop run.offset words)

-- the list of a slot
abbrev pub list_in : List ℕ → Option Run → Option (List ℕ)
list_in words None = None
list_in words (Some run) = Some (run_words words run)

-- the lists of the slots, the first of which is that of the id `first`
abbrev pub lists_from : List ℕ → ℕ → List (Option Run) → FinMap nat_cmp (List ℕ)
lists_from words first [] = empty
lists_from words first (None ∷ slots) = lists_from words (suc first) slots
lists_from words first (Some run ∷ slots) = insert (lists_from words (suc first) slots) first (run_words words run)

-- the words of all slots together
unfoldable pub slots_length : List (Option Run) → ℕ
slots_length slots = sum_by slot_length slots

-- how many slots have a run
unfoldable pub live_slots : List (Option Run) → ℕ
live_slots slots = count_by (λ slot. is_some slot) slots

-- each run lies in the region, and no two of them share a word
pub record IsLaidOut (words : List ℕ) (slots : List (Option Run)) : Type 0 where
  pub within : (id : ℕ) → offset_of slots id + length_of slots id ≤ length words
  pub apart : (id next : ℕ) → id ≢ next → 0 < length_of slots id → 0 < length_of slots next
      → offset_of slots id ≤ offset_of slots next
      → offset_of slots id + length_of slots id ≤ offset_of slots next

-- the vacant ids are those of the table that have no run, each once
pub record IsVacantList (slots : List (Option Run)) (vacant : List ℕ) : Type 0 where
  pub in_table : (k : ℕ) → k < length vacant → slice_index vacant k < length slots
  pub without_run : (k : ℕ) → k < length vacant → run_at slots (slice_index vacant k) ≡ None
  pub once : (j k : ℕ) → j < k → k < length vacant → slice_index vacant j ≢ slice_index vacant k
  pub all : length vacant + live_slots slots ≡ length slots
