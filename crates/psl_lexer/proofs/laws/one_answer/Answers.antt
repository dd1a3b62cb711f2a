use Rattle.psl_lexer.proofs.LawReads.{one_list, one_fault, not_both}
use Rattle.psl_lexer.proofs.laws.one_answer.Goals as goal

pub returns : goal.returns
returns c = record { one_list = one_list; one_fault = one_fault; not_both = not_both }
