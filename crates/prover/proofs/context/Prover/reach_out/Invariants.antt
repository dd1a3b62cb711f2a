use Rattle.prover.proofs.context.Prover.reach_out.Given as goal
use Rattle.prover.specs.Reaching.{HaveCome}
use Rattle.prover.specs.Telling.{HasToldFor}

abbrev pub invariant-loop-visits : goal.invariant-loop-visits
invariant-loop-visits g l = record {
  come : HaveCome l.fn.self.task l.visits l.ends l.begun;
  told : HasToldFor l.fn.self.task (g.W.Wording.line l.fn.wording) g.B.Begun.sink (g.E.Sink.state l.err);
}
