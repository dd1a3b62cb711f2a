use Rattle.std.proofs.Common.{sym, ◌∙◌, refl, arith}
use Rattle.clause_text.proofs.Once.{all_have_lines, lines_once, lemmas_have_lines, lemma_words, no_fault}
use Rattle.clause_text.proofs.laws.one_log_law.Goals as goal

pub returns-clause-lines : goal.returns-clause-lines
returns-clause-lines c = λ log some. record { lines = refl; entries = all_have_lines log some.0; few = some.1 }

pub returns-clause-lemma_lines : goal.returns-clause-lemma_lines
returns-clause-lemma_lines c = λ log some. record { lines = refl; entries = lemmas_have_lines log some.0; few = omega (arith, some.1, lemma_words log) }

pub returns-clause-one : goal.returns-clause-one
returns-clause-one c = λ drops text log other one also. lines_once drops log other one.entries also.entries (sym one.lines ∙ also.lines)

pub returns-clause-faultless : goal.returns-clause-faultless
returns-clause-faultless c = λ drops text log fault stands found. no_fault drops text log fault stands found
