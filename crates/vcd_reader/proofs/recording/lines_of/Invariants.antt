use Rattle.std.proofs.Common.{◌≡◌, ◌≤◌, length, map, take}
use Rattle.psl_base.specs.Places.{place_at}
use Rattle.vcd_reader.proofs.recording.lines_of.Given as goal
use Rattle.vcd_reader.specs.Rows.{line_at}

abbrev pub invariant-loop-start : goal.invariant-loop-start
invariant-loop-start l = record {
  lines : l.lines.items ≡ map (line_at l.text) (take l.start-index l.starts);
  from : l.from ≤ length l.text;
  place : l.place ≡ place_at l.text l.from;
}
