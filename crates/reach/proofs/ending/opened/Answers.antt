use Rattle.std.proofs.Common.{arith}
use Rattle.gates_theory.proofs.Within.{wider_all}
use Rattle.clauses.specs.declared.flat.TheConstants.{MOST_VARIABLES}
use Rattle.joint_theory.specs.Bits.{joint_width}
use Rattle.reach_frames.specs.Levels.{frames_of}
use Rattle.reach_frames.specs.Systems.{frame_at}
use Rattle.reach.proofs.Opening.{frames-next, opened-frames, stuck-states}
use Rattle.reach.proofs.Plain.{frame-within}
use Rattle.reach.proofs.ending.opened.Goals as goal

pub frame-requires : goal.frame-requires
frame-requires c =
    let joined = c.args.machine.now.joint.now in
    let width = joint_width joined.design joined.automaton joined.visits in
    let frame = frame_at (frames_of c.args.frames.now) c.loop-place.place in
    wider_all width MOST_VARIABLES (omega (arith, c.state_bits.ensures.is, c.state_bits.ensures.few)) frame
    (frame-within width frame (c.requires.sound.framed c.loop-place.place))

pub loop-place-preserved : goal.loop-place-preserved
loop-place-preserved c =
    frames-next c.args.frames.now c.loop-place.place c.in_ok-frame.field-0 c.loop-place.lists c.push.new.self
    (omega (arith, c.loop-place-test.true, c.len-place-end.ensures)) c.in_ok-frame.ensures c.loop-place.invariant c.in_ok-push.ensures.ok

pub read_states-requires : goal.read_states-requires
read_states-requires c =
    stuck-states c.args.machine.now.joint.now (frames_of c.args.frames.now) c.args.stuck.now c.requires

pub returns : goal.returns
returns c =
    opened-frames c.args.machine.now.joint.now c.args.frames.now c.args.stuck.now c.loop-place.lists c.loop-place.place c.in_ok-stuck.stuck
    c.requires c.loop-place.invariant (omega (arith, c.loop-place-test.false, c.len-place-end.ensures)) c.in_ok-stuck.ensures
