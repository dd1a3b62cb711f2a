-- The values of all obligations at a sample, and the answers that they come to.
use Rattle.std.specs.Prelude.{◌≡◌, ◌≤◌, ◌*◌, ℕ, List, length, take, drop}
use Rattle.psl_tree.specs.Followed.{Nothing, Tops, Bottoms}
use Rattle.psl_tree.specs.declared.letter.Letter.{Letter}
use Rattle.vcd_reader.specs.Sampled.{Sampled, letters_of}
use Rattle.alternating_theory.specs.Obligations.{Automaton, value_on}
use Rattle.alternating_blocks.specs.Values.{AreValues}
use Rattle.alternating_blocks.specs.declared.values.Values.{Values}
use Rattle.wave_judge.specs.declared.pass.Answers.{Answers}
use Rattle.wave_judge.specs.declared.pass.Stand.{Stand}

-- the word of so many first samples of a recording
abbrev pub first_letters : Sampled → ℕ → List Letter
first_letters recording count = take count (letters_of recording)

-- the values of all obligations on the word of so many first samples, at one of them or past the last
pub record AreValuesAt (automaton : Automaton) (recording : Sampled) (count sample : ℕ) (values : Values) : Type 0 where
  pub recorded : count ≤ length recording.samples
  pub within : sample ≤ count
  pub are : AreValues automaton (drop sample (first_letters recording count)) values

-- the values on the word of so many first samples, at the first sample of a block
pub record IsStand (automaton : Automaton) (recording : Sampled) (count block : ℕ) (stand : Stand) : Type 0 where
  pub counts : stand.count ≡ count
  pub stands : stand.block ≡ block
  pub values : AreValuesAt automaton recording count (64 * block) stand.values

-- the automaton's values on some letters in the three views
pub record AreAnswers (automaton : Automaton) (letters : List Letter) (answers : Answers) : Type 0 where
  pub weak : answers.weak ≡ value_on automaton Tops letters
  pub neutral : answers.neutral ≡ value_on automaton Nothing letters
  pub strong : answers.strong ≡ value_on automaton Bottoms letters
