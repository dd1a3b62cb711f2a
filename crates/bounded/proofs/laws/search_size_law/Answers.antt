use Rattle.bounded.proofs.Sizes.{variables-most, words-most}
use Rattle.bounded.proofs.laws.search_size_law.Goals as goal

pub returns : goal.returns
returns c = record {
  words = λ design automaton valuations sound few. words-most design automaton sound few valuations;
  variables = λ design automaton valuations sound few. variables-most design automaton sound few valuations;
}
