use Rattle.std.proofs.Common.{◌≡◌, ◌<◌, ◌≤◌, ◌-◌, length, drop}
use Rattle.std.specs.List.{slice_range}
use Rattle.blif_model.proofs.Going.{outside}
use Rattle.blif_model.proofs.Growing.{grown}
use Rattle.blif_model.proofs.pieces.word_end.Given as goal

abbrev pub invariant-loop-at : goal.invariant-loop-at
invariant-loop-at l = record {
  within : l.at ≤ length l.text;
  after : l.start < l.at;
  first : outside l.text l.start ≡ grown l.text l.start (slice_range l.text l.start l.at) l.at (drop l.at l.text);
}

abbrev pub decreases-loop-at : goal.decreases-loop-at
decreases-loop-at l = length l.text - l.at
