use Rattle.std.proofs.Common.{◌-◌}
use Rattle.prover.proofs.context.Prover.search_on.Given as goal
use Rattle.prover.specs.Glances.{IsSearched}
use Rattle.prover.specs.Telling.{HasToldFor}

abbrev pub invariant-loop-searched : goal.invariant-loop-searched
invariant-loop-searched g l = record {
  searched : IsSearched l.fn.self.task l.searched;
  told : HasToldFor l.fn.self.task (g.W.Wording.line l.fn.wording) g.B.Begun.sink (g.E.Sink.state l.err);
}

abbrev pub decreases-loop-searched : goal.decreases-loop-searched
decreases-loop-searched g l = l.fn.self.task.options.depth - l.searched.none_within
