use Rattle.std.proofs.Common.{◌≡◌, take}
use Rattle.blif_reader.specs.Kept.{line_titles}
use Rattle.blif_reader.proofs.shape.titles_in.Given as goal

abbrev pub invariant-loop-line : goal.invariant-loop-line
invariant-loop-line l = l.titles ≡ line_titles (take l.line-index l.lines)
