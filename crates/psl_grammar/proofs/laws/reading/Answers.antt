use Rattle.psl_grammar.proofs.Proved as proved
use Rattle.psl_grammar.proofs.laws.reading.Goals as goal

pub returns-clause-read_within_limit : goal.returns-clause-read_within_limit
returns-clause-read_within_limit c = proved.read_within_limit

pub returns-clause-fault_within_limit : goal.returns-clause-fault_within_limit
returns-clause-fault_within_limit c = proved.fault_within_limit
