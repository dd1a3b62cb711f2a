use Rattle.std.proofs.Common.{◌≡◌, ◌++◌, take}
use Rattle.commands.proofs.shown.Shown.add_valuations.Given as goal
use Rattle.commands.specs.Text.{valuation_lines}

abbrev pub invariant-loop-place : goal.invariant-loop-place
invariant-loop-place l =
    l.text.items ≡ l.initial.text.items ++ valuation_lines l.part l.self.columns.now 0 (take l.place l.valuations)
