use Rattle.std.proofs.Common.{◌≡◌, length, take}
use Rattle.vcd_reader.specs.Sampled.{letter_at}
use Rattle.wave_judge.proofs.packing.pack.Given as goal
use Rattle.wave_judge.specs.Letter.{TellsLetter}

abbrev pub invariant-loop-place : goal.invariant-loop-place
invariant-loop-place l = record {
  same_length : length l.letter ≡ length l.atoms;
  written : TellsLetter (take l.place l.atoms) (letter_at l.recording l.sample) (take l.place l.letter);
}
