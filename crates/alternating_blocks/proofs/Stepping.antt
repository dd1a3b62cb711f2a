-- A step for each of 64 letters, from the last to the first.
use Rattle.std.proofs.Common.{◌≡◌, ap, ◌∙◌, ℕ, suc, ◌+◌, ◌-◌, ◌<◌, Bool as Truth, List, ◌∷◌, ◌++◌, length, arith}
use Rattle.std.specs.Prelude.{slice_index}
use Rattle.psl_tree.specs.declared.atom.Atom.{Atom}
use Rattle.psl_tree.specs.declared.letter.Letter.{Letter}
use Rattle.psl_tree.specs.declared.letter.Letter.TheVariants.{Top, Bottom, Holds}
use Rattle.alternating_theory.specs.Obligations.{Automaton}
use Rattle.alternating.proofs.Stepping.{bits_pack}
use Rattle.alternating.specs.Packed.{bit, is_set, PacksLetter}
use Rattle.alternating.specs.Stepped.{value_at, values_of, StepsBack}
use Rattle.alternating_blocks.specs.Block.{PacksAt, letters_from}
use Rattle.alternating_blocks.specs.Values.{StepsTo, StepsAllTo, StepsAll}
use Rattle.alternating_blocks.specs.declared.values.Values.{Values}

-- words whose bits are those of the columns at a place pack the letter there
packs-letter : (atoms : List Atom) (columns words : List ℕ) (place : ℕ) (letter : Letter) → PacksAt atoms columns place letter
    → ((number : ℕ) → number < length atoms → is_set words number ≡ bit (slice_index columns number) place) → PacksLetter atoms words letter
packs-letter atoms columns words place Top packs bits = absurd packs
packs-letter atoms columns words place Bottom packs bits = absurd packs
packs-letter atoms columns words place (Holds held) packs bits = bits_pack atoms words held (λ number other h. bits number h ∙ packs number other h)

one-step : (a : Automaton) (atoms : List Atom) (columns words : List ℕ) (next before now : List Truth) (place after : ℕ) → after ≡ place + 1 → place < 64
    → ((number : ℕ) → number < length atoms → is_set words number ≡ bit (slice_index columns number) place)
    → StepsTo after a atoms columns next before → StepsBack a atoms words before now → StepsTo place a atoms columns next now
one-step a atoms columns words next before now place after e within bits steps back letter packs tests past rest is =
    back (letter place) (packs-letter atoms columns words place (letter place) (packs place within) bits) tests past (letters_from letter after (64 - after) ++ rest) (steps letter packs tests past rest is)
    ∙ ap (λ n. values_of a past (letter place ∷ letters_from letter n (64 - n) ++ rest)) one
    ∙ ap (λ n. values_of a past (letters_from letter place n ++ rest)) (more place within)
  where
    one : after ≡ suc place
    one = omega arith

    more : (place : ℕ) → place < 64 → suc (64 - suc place) ≡ 64 - place
    more place within = omega arith

pub no-step : (a : Automaton) (atoms : List Atom) (columns : List ℕ) (values : Values) → StepsAllTo 64 a atoms columns values values
no-step a atoms columns values = record {
  weak = λ letter packs tests past rest e. e;
  neutral = λ letter packs tests past rest e. e;
  strong = λ letter packs tests past rest e. e;
}

pub all-step : (a : Automaton) (atoms : List Atom) (columns words : List ℕ) (next before now : Values) (letter : List Truth) (place after : ℕ) → after ≡ place + 1 → place < 64
    → length columns ≡ length atoms → length letter ≡ length columns
    → ((number : ℕ) → number < length columns → value_at letter number ≡ bit (slice_index columns number) place)
    → ((number : ℕ) → number < length letter → is_set words number ≡ value_at letter number)
    → StepsAllTo after a atoms columns next before → StepsAll a atoms words before now → StepsAllTo place a atoms columns next now
all-step a atoms columns words next before now letter place after e within many same read bits steps back = record {
  weak = one-step a atoms columns words next.weak before.weak now.weak place after e within set steps.weak back.weak;
  neutral = one-step a atoms columns words next.neutral before.neutral now.neutral place after e within set steps.neutral back.neutral;
  strong = one-step a atoms columns words next.strong before.strong now.strong place after e within set steps.strong back.strong;
}
  where
    set : (number : ℕ) → number < length atoms → is_set words number ≡ bit (slice_index columns number) place
    set number h = bits number (omega arith) ∙ read number (omega arith)
