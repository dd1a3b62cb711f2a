use Rattle.std.proofs.Common.{◌≡◌, length}
use Rattle.joint.proofs.joined.Joint.tested.Given as goal

abbrev pub invariant-loop-number : goal.invariant-loop-number
invariant-loop-number l = record {
  now : length l.slice.now ≡ l.self.design.signals;
  before : length l.slice.before ≡ l.self.design.signals;
  tested : length l.slice.tested ≡ l.self.design.signals;
}
