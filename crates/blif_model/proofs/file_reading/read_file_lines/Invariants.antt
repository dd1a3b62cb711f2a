use Rattle.std.proofs.Common.{◌≡◌, [], length}
use Rattle.blif_model.specs.FileKnown.{file_running, no_file_known}
use Rattle.blif_model.specs.Lines.{lines, lines_from}
use Rattle.blif_model.proofs.file_reading.read_file_lines.Given as goal

abbrev pub invariant-loop-reader : goal.invariant-loop-reader
invariant-loop-reader l = record {
  whole : l.pieces.whole ≡ l.whole;
  same_whole : l.reader.own.named.whole ≡ l.whole;
  left : file_running (no_file_known l.whole) (lines l.whole) ≡ file_running l.reader (lines_from [] l.pieces.pieces);
}

abbrev pub decreases-loop-reader : goal.decreases-loop-reader
decreases-loop-reader l = length (lines_from [] l.pieces.pieces)
