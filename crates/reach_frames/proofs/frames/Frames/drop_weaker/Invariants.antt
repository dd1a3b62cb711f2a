use Rattle.std.proofs.Common.{◌≡◌, ◌+◌, ◌≤◌, ◌++◌, map, take, drop}
use Rattle.reach_frames.specs.Marks.{without_weaker}
use Rattle.reach_frames.proofs.frames.Frames.drop_weaker.Given as goal

abbrev pub invariant-loop-at : goal.invariant-loop-at
invariant-loop-at l = record {
  within : l.at ≤ l.level + 1;
  is : l.self ≡ map (without_weaker l.clause) (take l.at l.fn.self) ++ drop l.at l.fn.self;
}
