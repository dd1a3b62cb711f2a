use Rattle.std.proofs.Common.{◌≡◌, suc, ◌-◌, ◌≤◌}
use Rattle.prover.proofs.context.Prover.left_open.Given as goal
use Rattle.prover.specs.Glances.{IsSearchedTo}
use Rattle.prover.specs.Kept.{AreKeptFor}
use Rattle.prover.specs.Reaching.{IsReaching}
use Rattle.prover.specs.Telling.{HasToldFor}

abbrev pub invariant-loop-window : goal.invariant-loop-window
invariant-loop-window g l = record {
  some : 2 ≤ l.window;
  end : l.window ≤ suc l.fn.self.task.options.depth;
  searched : IsSearchedTo l.fn.self.task (l.window - 1) l.searched;
  paths : AreKeptFor l.fn.self.task (suc l.fn.self.task.options.visits) (l.window - 1) l.paths;
  reaching : IsReaching l.fn.self.task l.reaching;
  prefixes : l.prefixes ≡ l.fn.self.task.netlist.now;
  opens : l.opens ≡ l.fn.self.task.netlist.now;
  told : HasToldFor l.fn.self.task (g.W.Wording.line l.fn.wording) g.B.Begun.sink (g.E.Sink.state l.err);
}
