use Rattle.std.proofs.Common.{◌∙◌, suc, ◌+◌, arith}
use Rattle.prover.proofs.Kept.{kept-stays, one-kept}
use Rattle.prover.proofs.Opened.{next-look}
use Rattle.prover.proofs.Raised.{fewer-kept}
use Rattle.prover.proofs.context.Prover.first_paths.Goals as goal
use Rattle.prover.proofs.context.Prover.first_paths.Goals.{else-loop-visits-test, then-loop-visits-test+in_ok-path+in_ok-push+else-visits-visits-end}

pub next_path-requires-clause-looked_at : goal.next_path-requires-clause-looked_at
next_path-requires-clause-looked_at c = next-look c.args.self.task.netlist.now c.args.self.task.unit.now c.args.self.task.directive.now c.args.self.task.options
    c.loop-visits.visits 1 c.requires.looked_at (omega arith)
    (kept-stays c.args.self.task c.loop-visits.visits 1 c.loop-visits.paths c.loop-visits.invariant.paths)

pub next_path-requires-clause-fewer : goal.next_path-requires-clause-fewer
next_path-requires-clause-fewer c = fewer-kept c.args.self.task c.loop-visits.visits 1 c.loop-visits.paths c.path_before-fewer.result
    c.loop-visits.invariant.paths c.path_before-fewer.ensures

pub loop-visits-preserved : goal.loop-visits-preserved
loop-visits-preserved c = record {
  netlist = c.in_ok-path.ensures.netlist ∙ c.loop-visits.invariant.netlist;
  paths = one-kept c.args.self.task c.loop-visits.visits (c.loop-visits.visits + 1) 1 c.loop-visits.paths c.push.new.self
      c.in_ok-path.path c.loop-visits.invariant.paths c.in_ok-path.ensures.path c.in_ok-push.ensures.ok (omega arith);
}

pub returns-clause-paths : goal.returns-clause-paths
returns-clause-paths c = elim c.loop-visits-test.branch [
  | else-loop-visits-test w ↦ absurd (omega (arith, w.loop-visits-test.false))
  | then-loop-visits-test+in_ok-path+in_ok-push+else-visits-visits-end w ↦ one-kept c.args.self.task c.loop-visits.visits
      (suc c.args.self.task.options.visits) 1 c.loop-visits.paths c.loop-visits-test.paths w.in_ok-path.path c.loop-visits.invariant.paths
      w.in_ok-path.ensures.path (w.paths-is ∙ w.in_ok-push.ensures.ok) (omega arith)
]
