use Rattle.psl_parser.proofs.Whole.{one_parsed, one_parse_fault, not_both}
use Rattle.psl_parser.proofs.laws.one_answer.Goals as goal

pub returns-clause-one_tree : goal.returns-clause-one_tree
returns-clause-one_tree c = one_parsed

pub returns-clause-one_fault : goal.returns-clause-one_fault
returns-clause-one_fault c = one_parse_fault

pub returns-clause-not_both : goal.returns-clause-not_both
returns-clause-not_both c = not_both
