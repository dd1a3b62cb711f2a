use Rattle.reach_frames.proofs.leaving_out.leave_out.Goals as goal

pub loop-turn-preserved-in-Some : goal.loop-turn-preserved-in-Some
loop-turn-preserved-in-Some g c = record {
  shut = rw c.in-Some.is at c.in_ok-less.ensures.shut;
  within = λ state inside. (rw c.in-Some.is at c.in_ok-less.ensures.within) state (c.loop-turn.invariant.within state inside);
}
