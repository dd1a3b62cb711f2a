use Rattle.std.proofs.Common.{◌≡◌, ◌++◌, take}
use Rattle.std.specs.List.{flat_map}
use Rattle.commands.proofs.printing.add_verdicts.Given as goal
use Rattle.commands.specs.Text.{verdict_line}

abbrev pub invariant-loop-verdict : goal.invariant-loop-verdict
invariant-loop-verdict l = l.text.items ≡ l.initial.text.items ++ flat_map verdict_line (take l.verdict-index l.verdicts)
