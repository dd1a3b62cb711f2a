-- What is kept of a signal: its changes, each with the number of samples begun before it.
use Rattle.std.specs.Prelude.{◌≡◌, ℕ, zero, suc, ◌+◌, ◌≤◌, nat_le, cond, List, [], ◌∷◌, length, Option, None, Some, slice_get, slice_range}
use Rattle.vcd_reader.specs.declared.changes.Change.{Change}

-- the last change before which at most so many samples were begun, or an older one where there is none
abbrev pub latest_change : Option Change → ℕ → List Change → Option Change
latest_change old sample [] = old
latest_change old sample (change ∷ changes) = latest_change (cond (nat_le change.sample sample) (Some change) old) sample changes

-- the letters of a change, which stand in the text
abbrev pub letters_in : List ℕ → Change → List ℕ
letters_in bytes change = slice_range bytes change.start (change.start + change.len)

-- the last of the first so many changes
abbrev pub last_of : ℕ → List Change → Option Change
last_of zero changes = None
last_of (suc count) changes = slice_get changes count

-- the last of the first so many changes is the last one before which at most so many samples were begun
pub record IsCount (sample count : ℕ) (changes : List Change) : Type 0 where
  pub within : count ≤ length changes
  pub last : last_of count changes ≡ latest_change None sample changes
