-- Courses: places that each have a letter and a next place. A word with a loop, its dual, its suffixes
-- and the words that an abort cuts from it are read from the places of one kind of course.
use Rattle.std.specs.Prelude.{Bool as Truth, ℕ, zero, suc, ◌+◌, ◌==◌, nat_lt, if◌then◌else◌, List, [], ◌∷◌, ◌++◌, length, Some}
use Rattle.psl_tree.specs.Trace.{Trace, dual_letter}
use Rattle.psl_tree.specs.declared.letter.Letter.{Letter}
use Rattle.psl_tree.specs.declared.letter.Letter.TheVariants.{Top, Bottom}
use Rattle.psl_tree.specs.declared.letter.Word.{Word}

pub record Course : Type 0 where
  pub letter : ℕ → Letter
  pub next : ℕ → ℕ

-- the place that is so many steps on
abbrev pub walk : (ℕ → ℕ) → ℕ → ℕ → ℕ
walk next zero place = place
walk next (suc count) place = walk next count (next place)

-- the trace that is read from a place on
abbrev pub read_from : Course → ℕ → Trace
read_from course place = λ k. Some (course.letter (walk course.next k place))

-- Top and Bottom change places
abbrev pub opposite : Course → Course
opposite course = record { letter = λ place. dual_letter (course.letter place); next = course.next }

-- the course that goes on at the sink from where it would come to a place that stops it
abbrev pub stopped : (ℕ → Truth) → ℕ → Course → Course
stopped stops sink course = record {
  letter = course.letter;
  next = λ place. if stops (course.next place) then sink else course.next place;
}

-- the letter of a number, from 0 on; directly behind the letters Top, and further on Bottom
abbrev pub letter_in : List Letter → ℕ → Letter
letter_in [] zero = Top
letter_in [] (suc _) = Bottom
letter_in (letter ∷ _) zero = letter
letter_in (_ ∷ letters) (suc number) = letter_in letters number

-- how many places a word with a loop has: those of its stem, and then those of its loop
abbrev pub places : Word → ℕ
places word = length word.stem + length word.looped

-- the letter at a place of the word; two places more stand for Top for ever and for Bottom for ever
abbrev pub letter_at : Word → ℕ → Letter
letter_at word place = letter_in (word.stem ++ word.looped) place

-- the place after a place: after the last one the loop begins again, and a place behind the word is its own next place
abbrev pub next_place : Word → ℕ → ℕ
next_place word place =
    if nat_lt (suc place) (places word) then suc place
    else if suc place == places word then length word.stem else place

-- the course of a word with a loop
abbrev pub course_of : Word → Course
course_of word = record { letter = letter_at word; next = next_place word }
