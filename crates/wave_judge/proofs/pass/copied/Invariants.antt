use Rattle.std.proofs.Common.{◌≡◌, length, take}
use Rattle.wave_judge.proofs.pass.copied.Given as goal

abbrev pub invariant-loop-number : goal.invariant-loop-number
invariant-loop-number l = record {
  same_length : length l.copy ≡ l.count;
  written : take l.number l.copy ≡ take l.number l.truths;
}
