use Rattle.std.proofs.Common.{subst}
use Rattle.prover.proofs.HeldPaths.{sought-tried, untold-finding}
use Rattle.prover.proofs.context.Prover.search.Goals as goal
use Rattle.prover.specs.Glances.{IsProgress, IsUntold}
use Rattle.prover.specs.declared.finding.Query.TheVariants.{Search}
use Rattle.prover.specs.declared.searching.Progress.{Progress}

pub go_on-requires-clause-tried : goal.go_on-requires-clause-tried
go_on-requires-clause-tried c = sought-tried c.args.self.task.netlist.now c.args.self.task.unit.now c.args.self.task.directive.now
    c.args.self.task.options c.args.size c.requires.sought

pub returns-in-Nothing-clause-stop : goal.returns-in-Nothing-clause-stop
returns-in-Nothing-clause-stop c =
    let told : IsUntold c.args.self.task (Search c.args.size) c.args.self.task.options.steps c.in-Nothing.untold =
    subst (λ (p : Progress). IsProgress c.args.self.task c.args.size p) c.in-Nothing.is c.in_ok-searched.ensures.progress in
    untold-finding c.args.self.task (Search c.args.size) c.in-Nothing.untold c.finding.result c.finding.ensures c.requires.sought told
