use Rattle.std.proofs.Common.{◌≡◌, ◌++◌, length}
use Rattle.clause_text.specs.Lines.{lines_of, lemmas_alone}
use Rattle.clause_text.proofs.printing.add_log.Given as goal

abbrev pub invariant-loop-entry : goal.invariant-loop-entry
invariant-loop-entry l = l.text.items ++ lines_of (lemmas_alone l.entries) ≡ l.fn.text.items ++ lines_of (lemmas_alone l.log)

abbrev pub decreases-loop-entry : goal.decreases-loop-entry
decreases-loop-entry l = length l.entries
