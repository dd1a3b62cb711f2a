use Rattle.wave_judge.proofs.Faults.{some_answer, not_both, one_fault}
use Rattle.wave_judge.proofs.laws.one_answer_law.Goals as goal

pub returns-clause-some : goal.returns-clause-some
returns-clause-some c = some_answer

pub returns-clause-not_both : goal.returns-clause-not_both
returns-clause-not_both c = not_both

pub returns-clause-one : goal.returns-clause-one
returns-clause-one c = one_fault
