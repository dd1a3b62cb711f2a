use Rattle.std.proofs.Common.{◌≡◌, ◌-◌, ◌≤◌}
use Rattle.clauses.specs.Logs.{lemmas, log_words}
use Rattle.cdcl.specs.Solving.{IsReady}
use Rattle.cdcl.proofs.run.search.Given as goal

abbrev pub invariant-loop-alloc : goal.invariant-loop-alloc
invariant-loop-alloc l = record {
  formula : l.solver.formula ≡ l.fn.solver.formula;
  ready : IsReady l.solver;
  few : log_words l.solver.log ≤ 100000000;
  steps : lemmas l.solver.log ≤ l.steps;
}

abbrev pub decreases-loop-alloc : goal.decreases-loop-alloc
decreases-loop-alloc l = l.steps - lemmas l.solver.log
