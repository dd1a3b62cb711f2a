use Rattle.std.proofs.Common.{◌≡◌, ◌≤◌, [], length, map}
use Rattle.std.specs.Prelude.{All}
use Rattle.blif_model.specs.Lines.{lines_from}
use Rattle.blif_model.specs.Scanning.{IsWithin, word_of}
use Rattle.blif_model.proofs.pieces.Pieces.next_line.Given as goal

abbrev pub invariant-loop-span : goal.invariant-loop-span
invariant-loop-span l = record {
  whole : l.self.whole ≡ l.initial.self.whole;
  same : lines_from [] l.initial.self.pieces ≡ lines_from (map (word_of l.initial.self.whole) l.words.items) l.self.pieces;
  within : All (IsWithin l.initial.self.whole) l.words.items;
  fewer : length l.self.pieces ≤ length l.initial.self.pieces;
}

abbrev pub decreases-loop-span : goal.decreases-loop-span
decreases-loop-span l = length l.self.pieces
