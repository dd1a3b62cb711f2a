use Rattle.std.proofs.Common.{eqb, arith}
use Rattle.reach_frames.specs.Searches.{frame_before, IsShut, IsWithin}
use Rattle.reach_frames.proofs.Closing.{before_framed, closed_from_shut}
use Rattle.reach_frames.proofs.learning.lesson.Goals as goal

pub raise-requires-clause-closed : goal.raise-requires-clause-closed
raise-requires-clause-closed g c =
    let system = g.M.Machine.system c.args.machine.now in
    let shut : IsShut system c.args.before.now (eqb c.args.place 0) c.args.core = c.requires.shut in
    let shut : IsShut system (frame_before c.args.frames.now c.args.place) (eqb c.args.place 0) c.args.core = rw c.requires.before at shut in
    rw c.as_slice.ensures (closed_from_shut system c.args.frames.now c.args.place c.args.core shut)

pub leave_out-requires-clause-framed : goal.leave_out-requires-clause-framed
leave_out-requires-clause-framed g c =
    rw c.requires.before (before_framed (g.M.Machine.system c.args.machine.now) c.args.frames.now c.args.place c.requires.ready)

pub raise-requires-2-clause-closed : goal.raise-requires-2-clause-closed
raise-requires-2-clause-closed g c =
    let system = g.M.Machine.system c.args.machine.now in
    let shut : IsShut system c.args.before.now (eqb c.args.place 0) c.in_ok-cube.cube = c.in_ok-cube.ensures.shut in
    let shut : IsShut system (frame_before c.args.frames.now c.args.place) (eqb c.args.place 0) c.in_ok-cube.cube = rw c.requires.before at shut in
    rw c.as_slice-2.ensures (closed_from_shut system c.args.frames.now c.args.place c.in_ok-cube.cube shut)
