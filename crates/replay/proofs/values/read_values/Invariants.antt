use Rattle.std.proofs.Common.{◌≡◌, map, take, length}
use Rattle.replay.proofs.values.read_values.Given as goal
use Rattle.replay.specs.Recorded.{value_of}

abbrev pub invariant-loop-place : goal.invariant-loop-place
invariant-loop-place l = record {
  room : length l.into ≡ length l.bits;
  hints : length l.hints ≡ length l.bits;
  values : take l.place l.into ≡ map (value_of l.recording l.sample) (take l.place l.bits);
}
