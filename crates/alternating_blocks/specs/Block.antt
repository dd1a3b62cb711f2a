-- The values of all obligations at 64 letters, told by the equations that they meet.
use Rattle.std.specs.Prelude.{◌≡◌, ◌==◌, IsTrue, ℕ, zero, suc, ◌-◌, ◌<◌, Bool as Truth, if◌then◌else◌, List, [], ◌∷◌, ◌++◌, length, slice_index, slice_index_or}
use Rattle.psl_tree.specs.Followed.{Past}
use Rattle.psl_tree.specs.Atoms.{AtomsOfBoolean}
use Rattle.psl_tree.specs.Holds.{holds}
use Rattle.psl_tree.specs.Trees.{Boolean}
use Rattle.psl_tree.specs.declared.atom.Atom.{Atom}
use Rattle.psl_tree.specs.declared.letter.Letter.{Letter}
use Rattle.psl_tree.specs.declared.letter.Letter.TheVariants.{Holds}
use Rattle.alternating_theory.specs.Obligations.{Automaton}
use Rattle.alternating_theory.specs.Positive.{Positive, met}
use Rattle.alternating_theory.specs.Atoms.{AtomsOfPositive, AtomsOfObligations, is_among}
use Rattle.alternating.specs.Packed.{bit, is_held}
use Rattle.alternating.specs.Stepped.{value_at, values_of}
use Rattle.alternating_blocks.specs.Words.{InEachView, words_at}
use Rattle.alternating_blocks.specs.declared.words.Words.{Words}

-- the columns say of each of these atoms whether it holds on the letter of a place, which is not Top or Bottom
abbrev pub PacksAt : List Atom → List ℕ → ℕ → Letter → Type 0
PacksAt atoms columns place (Holds held) =
    (number : ℕ) (other : Atom) → number < length atoms → bit (slice_index columns number) place ≡ is_held held (slice_index_or atoms number other)
PacksAt atoms columns place _ = ⊥

-- so they do of 64 letters
abbrev pub PacksBlock : List Atom → List ℕ → (ℕ → Letter) → Type 0
PacksBlock atoms columns letter = (place : ℕ) → place < 64 → PacksAt atoms columns place (letter place)

-- the word says at each place whether the Boolean, all of whose atoms have columns, holds on the letter there
abbrev pub TellsBoolean : List Atom → List ℕ → Boolean → ℕ → Type 0
TellsBoolean atoms columns test word =
    AtomsOfBoolean (λ atom. IsTrue (is_among atoms atom)) test
    → (place : ℕ) (letter : Letter) → place < 64 → PacksAt atoms columns place letter → bit word place ≡ holds letter test

-- the value at the next place, and past the last one that after the block, whose word is the same at all places
abbrev pub follows : ℕ → ℕ → ℕ → Truth
follows word after place = if place == 63 then bit after 63 else bit word (suc place)

-- the word says at each place whether the letter there meets the combination with the values at the next place
abbrev pub TellsMet : List Atom → List ℕ → (ℕ → ℕ) → (ℕ → ℕ) → Positive → ℕ → Type 0
TellsMet atoms columns after words combination word =
    AtomsOfPositive (λ atom. IsTrue (is_among atoms atom)) combination
    → (place : ℕ) (letter : Letter) → place < 64 → PacksAt atoms columns place letter
    → bit word place ≡ met combination letter (λ number. follows (words number) (after number) place)

-- the same in each view
abbrev pub MeetsAll : List Atom → List ℕ → List Words → List Words → Positive → Words → Type 0
MeetsAll atoms columns after words combination found =
    InEachView (λ view. TellsMet atoms columns (λ number. view (words_at after number)) (λ number. view (words_at words number)) combination (view found))

-- the letters of so many places in a row
abbrev pub letters_from : (ℕ → Letter) → ℕ → ℕ → List Letter
letters_from letter place zero = []
letters_from letter place (suc count) = letter place ∷ letters_from letter (suc place) count

-- where the words after a block are the values at some letters, the words of the block are those at each of
-- its letters, which these follow
abbrev pub AreBlockValues : Automaton → List Atom → List ℕ → (ℕ → ℕ) → (ℕ → ℕ) → Type 0
AreBlockValues automaton atoms columns after words =
    (letter : ℕ → Letter) → PacksBlock atoms columns letter → AtomsOfObligations (λ atom. IsTrue (is_among atoms atom)) automaton.obligations
    → (past : Past) (rest : List Letter)
    → ((number : ℕ) → number < length automaton.obligations → bit (after number) 63 ≡ value_at (values_of automaton past rest) number)
    → (number place : ℕ) → number < length automaton.obligations → place < 64
    → bit (words number) place ≡ value_at (values_of automaton past (letters_from letter place (64 - place) ++ rest)) number

-- the same in each view
abbrev pub AreAllBlockValues : Automaton → List Atom → List ℕ → List Words → List Words → Type 0
AreAllBlockValues automaton atoms columns after words =
    InEachView (λ view. AreBlockValues automaton atoms columns (λ number. view (words_at after number)) (λ number. view (words_at words number)))
