use Rattle.std.proofs.Common.{◌≡◌, ◌++◌, take}
use Rattle.std.specs.List.{flat_map}
use Rattle.commands.proofs.shown.Shown.add_values.Given as goal
use Rattle.commands.specs.Text.{value_part}

abbrev pub invariant-loop-column : goal.invariant-loop-column
invariant-loop-column l =
    l.text.items ≡ l.initial.text.items ++ flat_map (value_part l.valuation) (take l.column-index l.self.columns.now)
