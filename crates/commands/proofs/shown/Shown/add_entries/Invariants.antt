use Rattle.std.proofs.Common.{◌≡◌, ◌++◌, take}
use Rattle.std.specs.List.{flat_map}
use Rattle.commands.proofs.shown.Shown.add_entries.Given as goal
use Rattle.commands.specs.Text.{entry_text}

abbrev pub invariant-loop-entry : goal.invariant-loop-entry
invariant-loop-entry l =
    l.text.items ≡ l.initial.text.items ++ flat_map (entry_text l.self.columns.now l.self.depth l.self.visits) (take l.entry-index l.entries)
