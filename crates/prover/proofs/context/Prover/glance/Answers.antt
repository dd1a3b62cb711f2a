use Rattle.std.proofs.Common.{subst}
use Rattle.cdcl.specs.Answers.{IsAnswer, IsFull, IsRefutation, IsSpent}
use Rattle.cdcl.specs.declared.answer.Answer.{Answer}
use Rattle.prover.proofs.Evidence.{found-violates, none-more, query-formula, query-large}
use Rattle.prover.proofs.context.Prover.glance.Goals as goal

pub returns-in-Err-TooLarge : goal.returns-in-Err-TooLarge
returns-in-Err-TooLarge c = query-large c.args.self.task.netlist.now c.args.self.task.unit.now c.args.self.task.directive.now
    c.args.self.claim.now.violation c.args.size c.requires.ready.claim.violation
    (c.in-Err-TooLarge.ensures.large c.in-Err-TooLarge.field-0-is)

pub returns-in-Model : goal.returns-in-Model
returns-in-Model c = record {
  violates = found-violates c.args.self.task.netlist.now c.args.self.task.unit.now c.args.self.task.directive.now
      c.args.self.claim.now.violation c.args.size c.in_ok-run-in-Model.run' c.requires.ready.claim.violation c.in_ok-run-in-Model.ensures.found;
  size_is = c.in_ok-run-in-Model.ensures.found.size;
}

pub returns-in-Refuted : goal.returns-in-Refuted
returns-in-Refuted c =
    let r : IsRefutation c.in-Ok.ordered.formula c.args.steps c.in-Refuted.log =
    subst (λ (a : Answer). IsAnswer c.in-Ok.ordered.formula c.args.steps a) c.in-Refuted.is c.in_ok-values.ensures in
    none-more c.args.self.task.netlist.now c.args.self.task.unit.now c.args.self.task.directive.now c.args.self.claim.now.violation c.args.size
    c.in-Ok.ordered.formula c.in-Refuted.log c.requires.ready.claim.violation c.in-Ok.ensures.models r.refutes

pub returns-in-Spent : goal.returns-in-Spent
returns-in-Spent c =
    let spent : IsSpent c.in-Ok.ordered.formula c.args.steps c.in-Spent.log =
    subst (λ (a : Answer). IsAnswer c.in-Ok.ordered.formula c.args.steps a) c.in-Spent.is c.in_ok-values.ensures in (
      c.in-Ok.ordered.formula,
      query-formula c.args.self.task.netlist.now c.args.self.task.unit.now c.args.self.task.directive.now c.args.self.claim.now.violation
          c.args.size c.in-Ok.ordered.formula c.requires.ready.claim.violation c.in-Ok.ensures.variables c.in-Ok.ensures.clauses,
      spent,
    )

pub returns : goal.returns
returns c =
    let full : IsFull c.in-Ok.ordered.formula c.args.steps c.in-LogFull.log =
    subst (λ (a : Answer). IsAnswer c.in-Ok.ordered.formula c.args.steps a) c.in-LogFull.is c.in_ok-values.ensures in (
      c.in-Ok.ordered.formula,
      query-formula c.args.self.task.netlist.now c.args.self.task.unit.now c.args.self.task.directive.now c.args.self.claim.now.violation
          c.args.size c.in-Ok.ordered.formula c.requires.ready.claim.violation c.in-Ok.ensures.variables c.in-Ok.ensures.clauses,
      full,
    )
