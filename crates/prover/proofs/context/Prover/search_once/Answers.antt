use Rattle.std.proofs.Common.{subst, ◌+◌, arith}
use Rattle.prover.proofs.HeldPaths.{tried, untold-end}
use Rattle.prover.proofs.context.Prover.search_once.Goals as goal
use Rattle.prover.specs.Glances.{IsProgress, IsUntold}
use Rattle.prover.specs.declared.finding.Query.TheVariants.{Search}
use Rattle.prover.specs.declared.searching.Progress.{Progress}

pub returns-in-Nothing-clause-end : goal.returns-in-Nothing-clause-end
returns-in-Nothing-clause-end c =
    let told : IsUntold c.args.self.task (Search (c.args.searched.none_within + 1)) c.args.self.task.options.steps c.in-Nothing.untold =
    subst (λ (p : Progress). IsProgress c.args.self.task (c.args.searched.none_within + 1) p) c.in-Nothing.is
    c.in_ok-further.ensures.progress in
    untold-end c.args.self.task (c.args.searched.none_within + 1) c.in-Nothing.untold c.end.result c.end.ensures
    (tried c.args.self.task.netlist.now c.args.self.task.unit.now c.args.self.task.directive.now c.args.self.task.options
    (c.args.searched.none_within + 1) (omega arith) (omega (arith, c.requires.within))
    (λ run v. omega (arith, c.requires.searched run v))) told
