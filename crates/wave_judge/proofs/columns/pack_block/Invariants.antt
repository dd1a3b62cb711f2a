use Rattle.std.proofs.Common.{◌≡◌, length}
use Rattle.wave_judge.proofs.columns.pack_block.Given as goal
use Rattle.wave_judge.specs.Letter.{TellColumns}

abbrev pub invariant-loop-number : goal.invariant-loop-number
invariant-loop-number l = record {
  columns_len : length l.columns ≡ length l.atoms;
  told : TellColumns l.recording l.first l.atoms l.columns l.number;
}
