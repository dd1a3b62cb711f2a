use Rattle.vcd_reader.proofs.Firsts.{some_answer, one_answer}
use Rattle.vcd_reader.proofs.laws.one_meaning_law.Goals as goal

pub returns-clause-some : goal.returns-clause-some
returns-clause-some c = some_answer

pub returns-clause-one : goal.returns-clause-one
returns-clause-one c = one_answer
