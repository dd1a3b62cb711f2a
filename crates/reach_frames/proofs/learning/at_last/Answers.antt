use Rattle.std.proofs.Common.{eqb, arith}
use Rattle.reach_frames.specs.Searches.{frame_before, IsShut}
use Rattle.reach_frames.proofs.Closing.{before_fits, before_framed, closed_from_shut, shut_from_closed}
use Rattle.reach_frames.proofs.learning.at_last.Goals as goal

pub before-requires : goal.before-requires
before-requires g c = before_fits (g.M.Machine.system c.args.machine.now) c.args.frames.now c.args.level c.requires.ready

pub leave_out-requires-clause-framed : goal.leave_out-requires-clause-framed
leave_out-requires-clause-framed g c =
    rw c.in_ok-frame.ensures (before_framed (g.M.Machine.system c.args.machine.now) c.args.frames.now c.args.level c.requires.ready)

pub leave_out-requires-clause-shut : goal.leave_out-requires-clause-shut
leave_out-requires-clause-shut g c =
    rw c.in_ok-frame.ensures (shut_from_closed (g.M.Machine.system c.args.machine.now) c.args.frames.now c.args.level c.args.core c.requires.closed)

pub returns-clause-learned : goal.returns-clause-learned
returns-clause-learned g c =
    let system = g.M.Machine.system c.args.machine.now in
    let shut : IsShut system c.in_ok-frame.frame (eqb c.args.level 0) c.in_ok-cube.cube = c.in_ok-cube.ensures.shut in
    let shut : IsShut system (frame_before c.args.frames.now c.args.level) (eqb c.args.level 0) c.in_ok-cube.cube = rw c.in_ok-frame.ensures at shut in
    record {
      within = c.in_ok-cube.ensures.within;
      later = omega arith;
      framed = c.requires.framed;
      closed = closed_from_shut system c.args.frames.now c.args.level c.in_ok-cube.cube shut;
    }
