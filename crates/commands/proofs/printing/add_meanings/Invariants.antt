use Rattle.std.proofs.Common.{◌≡◌, ◌++◌, take}
use Rattle.std.specs.List.{flat_map}
use Rattle.commands.proofs.printing.add_meanings.Given as goal
use Rattle.commands.specs.Text.{meaning_line}

abbrev pub invariant-loop-line : goal.invariant-loop-line
invariant-loop-line l = l.text.items ≡ l.initial.text.items ++ flat_map meaning_line (take l.line-index l.lines)
