-- The values of all obligations at a place.
use Rattle.std.specs.Prelude.{◌≡◌, IsTrue, ℕ, ◌<◌, Bool as Truth, false, List, ◌∷◌, map, length, slice_index_or}
use Rattle.psl_tree.specs.Followed.{Past}
use Rattle.psl_tree.specs.declared.atom.Atom.{Atom}
use Rattle.psl_tree.specs.declared.letter.Letter.{Letter}
use Rattle.psl_tree.specs.declared.letter.Letter.TheVariants.{Holds}
use Rattle.alternating_theory.specs.Obligations.{Automaton, obligation_at, value_of, value_on}
use Rattle.alternating_theory.specs.Positive.{met}
use Rattle.alternating_theory.specs.Atoms.{AtomsOfObligations, is_among}
use Rattle.alternating.specs.Packed.{is_set, is_held, PacksLetter}

-- the value of a number; false past the end
abbrev pub value_at : List Truth → ℕ → Truth
value_at values number = slice_index_or values number false

-- what a letter gives for all obligations, from their values at the next place
abbrev pub stepped : Automaton → Letter → List Truth → List Truth
stepped automaton letter next = map (λ obligation. met obligation.delta letter (λ number. value_at next number)) automaton.obligations

-- the values of all obligations at the first of some letters, where this follows them
abbrev pub values_of : Automaton → Past → List Letter → List Truth
values_of automaton past letters = map (λ obligation. value_of (obligation_at automaton.obligations) past obligation letters) automaton.obligations

-- a step from the values at the next place gives those at a letter whose atoms are packed
abbrev pub StepsBack : Automaton → List Atom → List ℕ → List Truth → List Truth → Type 0
StepsBack automaton atoms words next now =
    (letter : Letter) → PacksLetter atoms words letter → AtomsOfObligations (λ atom. IsTrue (is_among atoms atom)) automaton.obligations
    → (past : Past) (letters : List Letter) → next ≡ values_of automaton past letters → now ≡ values_of automaton past (letter ∷ letters)

-- the start's value among them is the automaton's on the word
abbrev pub StartTells : Automaton → Type 0
StartTells automaton = (past : Past) (letters : List Letter) → value_at (values_of automaton past letters) automaton.start ≡ value_on automaton past letters

-- words pack a letter where the bit of each place of these atoms says whether the atom there holds
abbrev pub BitsPack : List Atom → Type 0
BitsPack atoms = (words : List ℕ) (held : List Atom) → ((place : ℕ) (other : Atom) → place < length atoms → is_set words place ≡ is_held held (slice_index_or atoms place other))
    → PacksLetter atoms words (Holds held)
