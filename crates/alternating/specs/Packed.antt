-- Letters as words of 32 bits: the bit of a number says whether the atom of that number holds.
use Rattle.std.specs.Prelude.{◌≡◌, ◌==◌, ℕ, suc, ◌/◌, ◌%◌, ◌^◌, Bool as Truth, if◌then◌else◌, List, [], ◌∷◌, ◌++◌, slice_index}
use Rattle.std.specs.List.{list_any}
use Rattle.psl_tree.specs.Holds.{is_same_atom}
use Rattle.psl_tree.specs.declared.atom.Atom.{Atom}
use Rattle.psl_tree.specs.declared.letter.Letter.{Letter}
use Rattle.psl_tree.specs.declared.letter.Letter.TheVariants.{Holds}

-- a bit of a word, the lowest first
abbrev pub bit : ℕ → ℕ → Truth
bit word place = word / 2 ^ place % 2 == 1

-- the bit of a number, the lowest of the first word first
abbrev pub is_set : List ℕ → ℕ → Truth
is_set words place = bit (slice_index words (place / 32)) (place % 32)

-- the atoms whose bits are 1, where the first atom has this number
abbrev pub held_from : ℕ → List ℕ → List Atom → List Atom
held_from place words [] = []
held_from place words (atom ∷ atoms) = (if is_set words place then atom ∷ [] else []) ++ held_from (suc place) words atoms

-- the letter on which just the atoms hold whose bits are 1
abbrev pub letter_of : List Atom → List ℕ → Letter
letter_of atoms words = Holds (held_from 0 words atoms)

-- an atom holds among those that hold
abbrev pub is_held : List Atom → Atom → Truth
is_held held atom = list_any (λ other. is_same_atom atom other) held

-- from this number on, the bit of each atom says whether it holds
abbrev pub BitsTell : ℕ → List ℕ → List Atom → List Atom → Type 0
BitsTell place words [] held = Unit {0}
BitsTell place words (atom ∷ atoms) held = (is_set words place ≡ is_held held atom) × BitsTell (suc place) words atoms held

-- the words say of each of these atoms whether it holds on the letter, which is not Top or Bottom
abbrev pub PacksLetter : List Atom → List ℕ → Letter → Type 0
PacksLetter atoms words (Holds held) = BitsTell 0 words atoms held
PacksLetter atoms words _ = ⊥
