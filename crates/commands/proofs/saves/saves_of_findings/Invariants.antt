use Rattle.std.proofs.Common.{◌≡◌, map, take}
use Rattle.std.specs.List.{flat_map}
use Rattle.command_line.specs.Evidences.{evidence_of}
use Rattle.commands.proofs.saves.saves_of_findings.Given as goal
use Rattle.commands.specs.Saved.{files_of_entry}
use Rattle.psl_base.specs.Saves.{file_of}

abbrev pub invariant-loop-entry : goal.invariant-loop-entry
invariant-loop-entry l = map file_of l.saves ≡ flat_map (files_of_entry (evidence_of l.evidence)) (take l.entry-index l.entries)
