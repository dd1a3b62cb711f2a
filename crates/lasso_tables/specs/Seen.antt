-- A word with a loop, or its dual, as a course by a list of next places.
use Rattle.std.specs.Prelude.{◌≡◌, Bool as Truth, ℕ, suc, ◌+◌, ◌<◌, if◌then◌else◌, List, length, slice_index}
use Rattle.psl_tree.specs.Trace.{dual_letter}
use Rattle.psl_tree.specs.declared.letter.Letter.{Letter}
use Rattle.psl_tree.specs.declared.letter.Word.{Word}
use Rattle.alternating_theory.specs.Courses.{Course, places, letter_at}

-- a letter, or its dual
abbrev pub seen : Truth → Letter → Letter
seen flipped letter = if flipped then dual_letter letter else letter

-- the letter at a place of the word, or of its dual
abbrev pub seen_at : Word → Truth → ℕ → Letter
seen_at word flipped place = seen flipped (letter_at word place)

-- the course of the word, or of its dual, where a list has the next place of each place
abbrev pub course_by : Word → Truth → List ℕ → Course
course_by word flipped next =
    record { letter = λ place. seen_at word flipped place; next = λ place. slice_index next place }

-- a next place for each place of the word, and for the two behind it, at which the word does not end
pub record IsWhole (word : Word) (next : List ℕ) : Type 0 where
  pub same_length : length next ≡ places word + 2
  pub below : (place : ℕ) → place < length next → slice_index next place < length next
  pub top_rests : slice_index next (places word) ≡ places word
  pub bottom_rests : slice_index next (suc (places word)) ≡ suc (places word)

-- the place at which Top is seen for ever
abbrev pub sink_of : Word → Truth → ℕ
sink_of word flipped = if flipped then suc (places word) else places word
