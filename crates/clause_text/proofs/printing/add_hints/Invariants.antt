use Rattle.std.proofs.Common.{◌≡◌, ◌++◌, drop}
use Rattle.clause_text.specs.Lines.{hints_text}
use Rattle.clause_text.proofs.printing.add_hints.Given as goal

abbrev pub invariant-loop-hint : goal.invariant-loop-hint
invariant-loop-hint l = l.text.items ++ hints_text (drop l.hint-index l.hints) ≡ l.fn.text.items ++ hints_text l.hints
