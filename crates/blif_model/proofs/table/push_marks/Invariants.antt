use Rattle.std.proofs.Common.{◌≡◌, ◌++◌, map, take}
use Rattle.blif_model.specs.Shapes.{mark_of}
use Rattle.blif_model.proofs.table.push_marks.Given as goal

abbrev pub invariant-loop-byte : goal.invariant-loop-byte
invariant-loop-byte l = l.marks.items ≡ l.initial.marks.items ++ map mark_of (take l.byte-index l.text)
