-- The values of all obligations in the three views, a step back over a letter and one over 64 letters.
use Rattle.std.specs.Prelude.{◌≡◌, IsTrue, ◌-◌, ◌<◌, ℕ, Bool as Truth, List, ◌++◌, length}
use Rattle.psl_tree.specs.Followed.{Past, Nothing, Tops, Bottoms}
use Rattle.psl_tree.specs.declared.atom.Atom.{Atom}
use Rattle.psl_tree.specs.declared.letter.Letter.{Letter}
use Rattle.alternating_theory.specs.Obligations.{Automaton}
use Rattle.alternating_theory.specs.Atoms.{AtomsOfObligations, is_among}
use Rattle.alternating.specs.Packed.{bit}
use Rattle.alternating.specs.Stepped.{value_at, values_of, StepsBack}
use Rattle.alternating_blocks.specs.Block.{PacksBlock, letters_from}
use Rattle.alternating_blocks.specs.Words.{words_at}
use Rattle.alternating_blocks.specs.declared.values.Values.{Values}
use Rattle.alternating_blocks.specs.declared.words.Words.{Words}

-- so many values in each view
pub record HasCounts (count : ℕ) (values : Values) : Type 0 where
  pub weak : length values.weak ≡ count
  pub neutral : length values.neutral ≡ count
  pub strong : length values.strong ≡ count

-- one value for each obligation, in each view
abbrev pub HasLengths : Automaton → Values → Type 0
HasLengths automaton values = HasCounts (length automaton.obligations) values

-- the values of all obligations at the first of some letters, which Top follows in the weak view,
-- nothing in the neutral one and Bottom in the strong one
pub record AreValues (automaton : Automaton) (letters : List Letter) (values : Values) : Type 0 where
  pub weak : values.weak ≡ values_of automaton Tops letters
  pub neutral : values.neutral ≡ values_of automaton Nothing letters
  pub strong : values.strong ≡ values_of automaton Bottoms letters

-- in each view a step from the values at the next place gives those at a letter whose atoms are packed
pub record StepsAll (automaton : Automaton) (atoms : List Atom) (words : List ℕ) (next now : Values) : Type 0 where
  pub weak : StepsBack automaton atoms words next.weak now.weak
  pub neutral : StepsBack automaton atoms words next.neutral now.neutral
  pub strong : StepsBack automaton atoms words next.strong now.strong

-- steps from the values after 64 letters, whose atoms are packed in columns, give those at the letter of a place
abbrev pub StepsTo : ℕ → Automaton → List Atom → List ℕ → List Truth → List Truth → Type 0
StepsTo place automaton atoms columns next now =
    (letter : ℕ → Letter) → PacksBlock atoms columns letter → AtomsOfObligations (λ atom. IsTrue (is_among atoms atom)) automaton.obligations
    → (past : Past) (rest : List Letter) → next ≡ values_of automaton past rest → now ≡ values_of automaton past (letters_from letter place (64 - place) ++ rest)

-- the same in each view
pub record StepsAllTo (place : ℕ) (automaton : Automaton) (atoms : List Atom) (columns : List ℕ) (next now : Values) : Type 0 where
  pub weak : StepsTo place automaton atoms columns next.weak now.weak
  pub neutral : StepsTo place automaton atoms columns next.neutral now.neutral
  pub strong : StepsTo place automaton atoms columns next.strong now.strong

-- in each view they give those at the first of the letters
abbrev pub StepsBlock : Automaton → List Atom → List ℕ → Values → Values → Type 0
StepsBlock automaton atoms columns next now = StepsAllTo 0 automaton atoms columns next now

-- in each view the bits of a place of the words of so many obligations are their values
pub record ShowAt (place count : ℕ) (words : List Words) (values : Values) : Type 0 where
  pub weak : (number : ℕ) → number < count → bit (words_at words number).weak place ≡ value_at values.weak number
  pub neutral : (number : ℕ) → number < count → bit (words_at words number).neutral place ≡ value_at values.neutral number
  pub strong : (number : ℕ) → number < count → bit (words_at words number).strong place ≡ value_at values.strong number
