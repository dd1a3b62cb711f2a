use Rattle.run_terms.proofs.LetterRuns.{letter-at_run, word-letter, places-of_word}
use Rattle.run_terms.proofs.laws.letter_law.Goals as goal

pub returns : goal.returns
returns c = record { run = letter-at_run; word = word-letter; places = places-of_word }
