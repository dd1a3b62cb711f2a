use Rattle.std.proofs.Common.{◌≤◌, ◌<◌, ◌-◌, length}
use Rattle.std.specs.Prelude.{IfSome}
use Rattle.reach.specs.Holding.{HaveHeld}
use Rattle.reach.specs.Sides.{AreGood}
use Rattle.reach.proofs.stepping.strengthen.Given as goal

abbrev pub invariant-loop-reached : goal.invariant-loop-reached
invariant-loop-reached l = record {
  good : AreGood l.machine.joint.now l.pace.most l.sought.frames;
  some : 0 < length l.sought.frames;
  more : l.pace.most ≤ l.sought.room;
  few : l.sought.room ≤ 1000;
  held : IfSome l.sought.held (HaveHeld l.machine.joint.now);
}

abbrev pub decreases-loop-reached : goal.decreases-loop-reached
decreases-loop-reached l = l.pace.most - length l.sought.frames
