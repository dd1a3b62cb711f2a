use Rattle.std.proofs.Common.{arith}
use Rattle.reach_frames.proofs.Closing.{ready_fits}
use Rattle.reach_frames.proofs.Staying.{none_left}
use Rattle.reach_frames.proofs.settling.settle_level.Goals as goal

pub frame-requires : goal.frame-requires
frame-requires g c = ready_fits (g.M.Machine.system c.args.machine.now) c.args.frames.now c.args.place c.requires.ready

pub move_on-requires-clause-framed : goal.move_on-requires-clause-framed
move_on-requires-clause-framed g c = rw c.in_ok-frame.ensures (c.requires.ready.sound.framed c.args.place)

pub returns-clause-moves : goal.returns-clause-moves
returns-clause-moves g c =
    none_left c.loop-index.frames c.args.place c.loop-index.index c.loop-index.stuck c.loop-index.invariant.some
    (omega (arith, c.loop-index-test.false, c.count_at.ensures))
