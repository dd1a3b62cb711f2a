use Rattle.psl_grammar.proofs.Proved as proved
use Rattle.psl_grammar.proofs.laws.first_syntax_fault.Goals as goal

pub returns-clause-tree_or_fault : goal.returns-clause-tree_or_fault
returns-clause-tree_or_fault c = proved.tree_or_fault
