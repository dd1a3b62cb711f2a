use Rattle.std.proofs.Common.{◌≡◌, ◌++◌, take}
use Rattle.commands.proofs.printing.add_settled_verdicts.Given as goal
use Rattle.commands.specs.Text.{settled_lines}

abbrev pub invariant-loop-place : goal.invariant-loop-place
invariant-loop-place l = l.text.items ≡ l.initial.text.items ++ settled_lines (take l.place l.verdicts) l.fn.settled
