-- The letters of samples, told atom by atom.
use Rattle.std.specs.Prelude.{◌≡◌, ◌+◌, ◌<◌, ℕ, Bool as Truth, List, map, slice_index, slice_index_or}
use Rattle.psl_tree.specs.Holds.{holds}
use Rattle.psl_tree.specs.Trees.{Test}
use Rattle.psl_tree.specs.declared.atom.Atom.{Atom}
use Rattle.psl_tree.specs.declared.letter.Letter.{Letter}
use Rattle.alternating.specs.Packed.{bit}
use Rattle.vcd_reader.specs.Sampled.{Sampled, letter_at}

-- the values say of each atom whether it holds on the letter
abbrev pub TellsLetter : List Atom → Letter → List Truth → Type 0
TellsLetter atoms letter values = values ≡ map (λ atom. holds letter (Test atom)) atoms

-- the columns of the first of these atoms say at which of 64 samples, from one on, they hold: the lowest bit is that
-- of the first sample
abbrev pub TellColumns : Sampled → ℕ → List Atom → List ℕ → ℕ → Type 0
TellColumns recording first atoms columns count =
    (number : ℕ) (other : Atom) → number < count → (place : ℕ) → place < 64
    → bit (slice_index columns number) place ≡ holds (letter_at recording (first + place)) (Test (slice_index_or atoms number other))
