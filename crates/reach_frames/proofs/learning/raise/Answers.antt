use Rattle.std.proofs.Common.{false, sym, subst, ℕ, arith, add-one}
use Rattle.reach_frames.specs.Entries.{HasNoEntry, IsEntered}
use Rattle.reach_frames.specs.Searches.{frame_in, IsClosed}
use Rattle.reach_frames.proofs.Closing.{closed_further, ready_fits}
use Rattle.reach_frames.proofs.learning.raise.Goals as goal

pub frame-requires : goal.frame-requires
frame-requires g c = ready_fits (g.M.Machine.system c.args.machine.now) c.args.frames.now c.loop-level.level c.requires.ready

pub entry-requires-clause-frame : goal.entry-requires-clause-frame
entry-requires-clause-frame g c = rw c.in_ok-frame.ensures (c.requires.ready.sound.framed c.loop-level.level)

pub loop-level-preserved : goal.loop-level-preserved
loop-level-preserved g c =
    let system = g.M.Machine.system c.args.machine.now in
    let levels = c.args.frames.now in
    let level = c.loop-level.level in
    let cube = c.args.cube.now in
    let answer : IsEntered system c.in_ok-frame.frame false cube c.in_ok-entry.field-0 = c.in_ok-entry.ensures.answer in
    let none : HasNoEntry system c.in_ok-frame.frame false cube = rw c.in-Kept.is at answer in
    let none : HasNoEntry system (frame_in levels level) false cube = rw c.in_ok-frame.ensures at none in
    record {
      later = omega arith;
      framed = omega arith;
      closed = subst (λ (k : ℕ). IsClosed system levels k cube) (sym (add-one level)) (closed_further system levels level cube c.loop-level.invariant.closed none);
    }
