-- Words as traces: what stands at each place.
use Rattle.std.specs.Prelude.{Bool as Truth, false, ℕ, ◌+◌, ◌-◌, ◌%◌, zero, suc, nat_lt, if◌then◌else◌, List, [], ◌∷◌, length, slice_get, Option, None, Some, is_some}
use Rattle.psl_tree.specs.Holds.{holds}
use Rattle.psl_tree.specs.Trees.{Boolean}
use Rattle.psl_tree.specs.declared.letter.Letter.{Letter}
use Rattle.psl_tree.specs.declared.letter.Letter.TheVariants.{Top, Bottom, Holds}
use Rattle.psl_tree.specs.declared.letter.Word.{Word}

-- the letter at each place, counted from 0; none past the end of a finite word
abbrev pub Trace : Type 0
Trace = ℕ → Option Letter

-- letters that repeat for ever; none anywhere where there are none
abbrev pub for_ever : List Letter → Trace
for_ever letters = λ k. slice_get letters (k % length letters)

-- letters, and then a trace
abbrev pub after : List Letter → Trace → Trace
after letters trace = λ k. if nat_lt k (length letters) then slice_get letters k else trace (k - length letters)

-- the trace of a word: its stem, and then its loop for ever
abbrev pub trace_of : Word → Trace
trace_of word = after word.stem (for_ever word.looped)

-- the rest of a trace, from a place on
abbrev pub suffix : Trace → ℕ → Trace
suffix trace i = λ k. trace (i + k)

-- Top and Bottom change places, other letters stay (IEEE 1850, Annex B)
abbrev pub dual_letter : Letter → Letter
dual_letter Top = Bottom
dual_letter Bottom = Top
dual_letter (Holds atoms) = Holds atoms

-- the dual of what stands at a place
abbrev pub dual_at : Option Letter → Option Letter
dual_at None = None
dual_at (Some letter) = Some (dual_letter letter)

-- the dual of a trace, place by place
abbrev pub dual : Trace → Trace
dual trace = λ k. dual_at (trace k)

-- the first letters of a trace, and then Top for ever
abbrev pub cut : Trace → ℕ → Trace
cut trace j = λ k. if nat_lt k j then trace k else Some Top

-- a letter before others, where there is one
abbrev pub joined : Option Letter → List Letter → List Letter
joined None _ = []
joined (Some letter) letters = letter ∷ letters

-- the first letters of a trace, as many as asked for or as there are
abbrev pub first : ℕ → Trace → List Letter
first zero _ = []
first (suc n) trace = joined (trace 0) (first n (suffix trace 1))

-- the trace has this place
abbrev pub is_place : Trace → ℕ → Truth
is_place trace k = is_some (trace k)

-- a Boolean on what stands at a place: it does not hold where nothing stands
abbrev pub holds_where : Option Letter → Boolean → Truth
holds_where None _ = false
holds_where (Some letter) test = holds letter test

-- the trace has this place, and a Boolean holds on its letter
abbrev pub holds_at : Trace → ℕ → Boolean → Truth
holds_at trace k test = holds_where (trace k) test
