-- A recording as values at samples, and the letters that it stands for.
use Rattle.std.specs.Prelude.{ℕ, ◌-◌, ◌==◌, nat_lt, Bool as Truth, true, false, not, ◌&&◌, ◌||◌, cond, List, [], map, length, slice_index, slice_index_or, Option, None, Some}
use Rattle.std.specs.List.{range_with_len}
use Rattle.psl_base.specs.declared.place.Place.{Place}
use Rattle.psl_tree.specs.Letters as letters
use Rattle.psl_tree.specs.declared.atom.Atom.{Atom}
use Rattle.psl_tree.specs.declared.letter.Letter.{Letter}
use Rattle.psl_tree.specs.declared.name.Name.{Name}
use Rattle.vcd_reader.specs.declared.unknown.Unknown.{Unknown}
use Rattle.vcd_reader.specs.declared.unknown.Unknown.TheVariants.{Zero, One, Refuse}
pub use Rattle.psl_tree.specs.Letters.{atoms_of_bit, atoms_of_name, atoms_of}
pub use Rattle.psl_tree.specs.Names.{indices, AtomInRange, AreAlike}

-- what contracts see of a recording
pub record Sampled : Type 0 where
  pub names : List Name
  -- for each sample the value of each signal, in the order of their numbers, as letters from the left;
  -- none where the signal was not given a value yet
  pub samples : List (List (Option (List ℕ)))
  -- for each sample its time, the number behind `#`
  pub times : List ℕ
  -- for each sample the place of the first token that lists its time
  pub places : List Place
  -- what an unknown bit reads as
  pub unknown : Unknown

-- a letter that says 1: `1 h H`
abbrev pub says_one : ℕ → Truth
says_one letter = (letter == 49) || (letter == 104) || (letter == 72)

-- a letter that says 0: `0 l L`
abbrev pub says_zero : ℕ → Truth
says_zero letter = (letter == 48) || (letter == 108) || (letter == 76)

-- all others leave their bit unknown
abbrev pub says_nothing : ℕ → Truth
says_nothing letter = not (says_one letter || says_zero letter)

-- whether an unknown bit reads as 1
abbrev pub is_one_under : Unknown → Truth
is_one_under Zero = false
is_one_under One = true
is_one_under Refuse = false

-- whether a letter reads as 1
abbrev pub reads_one : Unknown → ℕ → Truth
reads_one unknown letter = says_one letter || (is_one_under unknown && says_nothing letter)

-- what stands to the left of a value's letters: 0 where the first is 0 or 1, else the first
abbrev pub letter_before : ℕ → ℕ
letter_before first = cond ((first == 48) || (first == 49)) 48 first

-- the letter of a bit, counted from the right, from 0
abbrev pub letter_of : List ℕ → ℕ → ℕ
letter_of value bit = cond (nat_lt bit (length value)) (slice_index value (length value - 1 - bit)) (letter_before (slice_index value 0))

-- the letter of a bit, where there is a value
abbrev pub letter_in : Option (List ℕ) → ℕ → Option ℕ
letter_in None bit = None
letter_in (Some value) bit = Some (letter_of value bit)

-- a bit by its letter: it is unknown where there is none
abbrev pub bit_by : Unknown → Option ℕ → Truth
bit_by unknown None = is_one_under unknown
bit_by unknown (Some letter) = reads_one unknown letter

abbrev pub is_unknown_by : Option ℕ → Truth
is_unknown_by None = true
is_unknown_by (Some letter) = says_nothing letter

-- the bit of a value, and whether it is unknown
abbrev pub bit_of : Unknown → Option (List ℕ) → ℕ → Truth
bit_of unknown value bit = bit_by unknown (letter_in value bit)

abbrev pub is_unknown_of : Option (List ℕ) → ℕ → Truth
is_unknown_of value bit = is_unknown_by (letter_in value bit)

-- the value of a signal at a sample
abbrev pub value_in : Sampled → ℕ → ℕ → Option (List ℕ)
value_in recording sample signal = slice_index_or (slice_index_or recording.samples sample []) signal None

abbrev pub bit_at : Sampled → ℕ → ℕ → ℕ → Truth
bit_at recording sample signal bit = bit_of recording.unknown (value_in recording sample signal) bit

-- whether a bit is unknown at a sample, however it reads
abbrev pub unknown_at : Sampled → ℕ → ℕ → ℕ → Truth
unknown_at recording sample signal bit = is_unknown_of (value_in recording sample signal) bit

-- the time of a sample
abbrev pub time_of_sample : Sampled → ℕ → ℕ
time_of_sample recording sample = slice_index_or recording.times sample 0

-- the place of the first token that lists a sample's time
abbrev pub place_of_time : Sampled → ℕ → Place
place_of_time recording sample = slice_index_or recording.places sample (record { line = 1; column = 1 })

-- whether an atom holds at a sample
abbrev pub atom_at : Sampled → ℕ → Atom → Truth
atom_at recording sample atom = letters.atom_at (bit_at recording) sample atom

-- the letter of a sample: the atoms that hold there
abbrev pub letter_at : Sampled → ℕ → Letter
letter_at recording sample = letters.letter_at (bit_at recording) recording.names sample

-- the word that a recording stands for: one letter for each sample, in order
abbrev pub letters_of : Sampled → List Letter
letters_of recording = map (letter_at recording) (range_with_len 0 (length recording.samples))
