use Rattle.std.proofs.Common.{◌≡◌, ◌++◌, length}
use Rattle.clause_text.specs.Lines.{lines_of}
use Rattle.clause_text.proofs.printing.add_log2.Given as goal

abbrev pub invariant-loop-entry : goal.invariant-loop-entry
invariant-loop-entry l = l.text.items ++ lines_of l.entries ≡ l.fn.text.items ++ lines_of l.log

abbrev pub decreases-loop-entry : goal.decreases-loop-entry
decreases-loop-entry l = length l.entries
