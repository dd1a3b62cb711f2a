use Rattle.std.proofs.Common.{refl, ◌∙◌, sym, subst, suc, ◌+◌, List, arith}
use Rattle.prover.proofs.Kept.{all-done, done-stays, next-done, next-kept, next-set, none-done}
use Rattle.prover.proofs.Opened.{next-look}
use Rattle.prover.proofs.Raised.{fewer-done}
use Rattle.prover.proofs.context.Prover.keep.Goals as goal
use Rattle.prover.proofs.context.Prover.keep.Goals.{else-loop-visits-test, then-loop-visits-test+else-visits-visits-end, then-not-keeps+in_ok-path, else-not-keeps}
use Rattle.prover.specs.Kept.{AreKeptTo}
use Rattle.prover.specs.declared.finding.OpenPath.{OpenPath}

pub loop-visits-init : goal.loop-visits-init
loop-visits-init c = record {
  netlist = refl;
  paths = none-done c.args.self.task c.args.window c.args.known c.requires.known;
}

pub next_path-requires-clause-looked_at : goal.next_path-requires-clause-looked_at
next_path-requires-clause-looked_at c = next-look c.args.self.task.netlist.now c.args.self.task.unit.now c.args.self.task.directive.now c.args.self.task.options
    c.loop-visits.visits c.args.window c.requires.looked_at (omega arith)
    (done-stays c.args.self.task c.loop-visits.visits c.args.window c.loop-visits.paths (omega arith) c.loop-visits.invariant.paths)

pub next_path-requires-clause-fewer : goal.next_path-requires-clause-fewer
next_path-requires-clause-fewer c = fewer-done c.args.self.task c.loop-visits.visits c.args.window c.loop-visits.paths c.path_before-fewer.result
    c.loop-visits.invariant.paths c.path_before-fewer.ensures

pub loop-visits-preserved : goal.loop-visits-preserved
loop-visits-preserved c = record {
  netlist = elim c.if-not-keeps.branch [
    | then-not-keeps+in_ok-path w ↦ w.opens-is ∙ w.in_ok-path.ensures.netlist ∙ c.loop-visits.invariant.netlist
    | else-not-keeps w ↦ w.opens-is ∙ c.loop-visits.invariant.netlist
  ];
  paths = elim c.if-not-keeps.branch [
    | then-not-keeps+in_ok-path w ↦ next-set c.args.self.task c.loop-visits.visits (c.loop-visits.visits + 1) c.args.window c.loop-visits.paths
        c.if-not-keeps.paths w.in_ok-path.path c.loop-visits.invariant.paths (omega (arith, c.loop-visits.invariant.paths.many, c.loop-visits.auto.visits-end))
        w.in_ok-path.ensures.path (w.paths-is ∙ w.set.ensures) (omega arith)
    | else-not-keeps w ↦ subst (λ (ps : List OpenPath). AreKeptTo c.args.self.task (c.loop-visits.visits + 1) c.args.window ps) (sym w.paths-is)
        (next-done c.args.self.task c.loop-visits.visits (c.loop-visits.visits + 1) c.args.window c.loop-visits.paths c.at.result.now
        c.loop-visits.invariant.paths c.at.ensures
        (next-kept c.args.self.task c.loop-visits.visits c.args.window c.at.result.now (sym c.keeps.ensures ∙ w.if-not-keeps.false)
        (c.loop-visits.invariant.paths.left c.loop-visits.visits c.at.result.now (omega arith) c.at.ensures)) (omega arith))
  ];
}

pub returns-clause-paths : goal.returns-clause-paths
returns-clause-paths c = elim c.loop-visits-test.branch [
  | else-loop-visits-test w ↦ absurd (omega (arith, w.loop-visits-test.false))
  | then-loop-visits-test+else-visits-visits-end w ↦ elim w.if-not-keeps.branch [
    | then-not-keeps+in_ok-path v ↦ all-done c.args.self.task c.args.window c.loop-visits-test.paths
        (next-set c.args.self.task c.loop-visits.visits (suc c.args.self.task.options.visits) c.args.window c.loop-visits.paths
        c.loop-visits-test.paths v.in_ok-path.path c.loop-visits.invariant.paths
        (omega (arith, c.loop-visits.invariant.paths.many, c.loop-visits.auto.visits-end))
        v.in_ok-path.ensures.path (w.paths-is ∙ v.paths-is ∙ v.set.ensures) (omega arith))
    | else-not-keeps v ↦ all-done c.args.self.task c.args.window c.loop-visits-test.paths
        (subst (λ (ps : List OpenPath). AreKeptTo c.args.self.task (suc c.args.self.task.options.visits) c.args.window ps)
        (sym (w.paths-is ∙ v.paths-is))
        (next-done c.args.self.task c.loop-visits.visits (suc c.args.self.task.options.visits) c.args.window c.loop-visits.paths w.at.result.now
        c.loop-visits.invariant.paths w.at.ensures
        (next-kept c.args.self.task c.loop-visits.visits c.args.window w.at.result.now (sym w.keeps.ensures ∙ v.if-not-keeps.false)
        (c.loop-visits.invariant.paths.left c.loop-visits.visits w.at.result.now (omega arith) w.at.ensures)) (omega arith)))
  ]
]
