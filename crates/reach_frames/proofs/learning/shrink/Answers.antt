use Rattle.reach_frames.proofs.learning.shrink.Goals as goal

pub loop-shut-preserved : goal.loop-shut-preserved
loop-shut-preserved g c = record {
  shut = rw c.in-Some.is at c.in_ok-less.ensures.shut;
  within = λ state inside. (rw c.in-Some.is at c.in_ok-less.ensures.within) state (c.loop-shut.invariant.within state inside);
}
