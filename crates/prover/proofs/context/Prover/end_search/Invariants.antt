use Rattle.std.proofs.Common.{◌≤◌, ◌-◌}
use Rattle.prover.proofs.context.Prover.end_search.Given as goal
use Rattle.prover.specs.Reaching.{joint_for, IsBegun}
use Rattle.prover.specs.Telling.{HasToldFor}

abbrev pub invariant-loop-frames : goal.invariant-loop-frames
invariant-loop-frames g l = record {
  some : 1 ≤ l.frames;
  few : l.frames ≤ l.fn.self.task.options.depth;
  begun : IsBegun l.fn.self.task (joint_for l.fn.self.task l.fn.visits) l.search;
  told : HasToldFor l.fn.self.task (g.W.Wording.line l.fn.wording) g.B.Begun.sink (g.E.Sink.state l.err);
}

abbrev pub decreases-loop-frames : goal.decreases-loop-frames
decreases-loop-frames g l = l.fn.self.task.options.depth - l.frames
