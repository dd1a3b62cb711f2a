use Rattle.std.proofs.Common.{◌≡◌}
use Rattle.prover.proofs.context.Prover.hold_ahead.Given as goal
use Rattle.prover.specs.Telling.{HasToldFor}

abbrev pub invariant-loop-size : goal.invariant-loop-size
invariant-loop-size g l = record {
  prefixes : l.prefixes ≡ l.initial.prefixes;
  told : HasToldFor l.fn.self.task (g.W.Wording.line l.fn.wording) g.B.Begun.sink (g.E.Sink.state l.err);
}
