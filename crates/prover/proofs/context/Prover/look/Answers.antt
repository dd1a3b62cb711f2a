use Rattle.std.proofs.Common.{rules, ◌≤◌, subst}
use Rattle.cdcl.specs.Answers.{IsAnswer, IsFull, IsRefutation, IsSpent}
use Rattle.cdcl.specs.declared.answer.Answer.{Answer}
use Rattle.clauses.specs.Literals.{clause_words}
use Rattle.clauses.specs.declared.flat.TheConstants.{MOST_WORDS}
use Rattle.prover.proofs.Seen.{view-closed, view-formula, view-large}
use Rattle.prover.proofs.context.Prover.look.Goals as goal

pub returns-in-Err-TooLarge : goal.returns-in-Err-TooLarge
returns-in-Err-TooLarge c = view-large c.args.self.task c.args.view c.args.joint.now c.requires.joint
    (c.in-Err-TooLarge.ensures.large c.in-Err-TooLarge.field-0-is)

pub returns-in-Refuted : goal.returns-in-Refuted
returns-in-Refuted c =
    let small : clause_words c.in-Ok.formula.clauses ≤ MOST_WORDS = search rules in
    let r : IsRefutation c.in-Ok.formula c.args.self.task.options.steps c.in-Refuted.log =
    subst (λ (a : Answer). IsAnswer c.in-Ok.formula c.args.self.task.options.steps a) c.in-Refuted.is c.in_ok-values.ensures in
    view-closed c.args.self.task c.args.view c.args.joint.now c.in-Ok.formula c.in-Refuted.log c.requires.joint
    (view-formula c.args.self.task c.args.view c.args.joint.now c.in-Ok.formula c.requires.joint c.in-Ok.ensures.variables c.in-Ok.ensures.clauses)
    c.in-Ok.ensures.models small r

pub returns-in-Spent : goal.returns-in-Spent
returns-in-Spent c =
    let spent : IsSpent c.in-Ok.formula c.args.self.task.options.steps c.in-Spent.log =
    subst (λ (a : Answer). IsAnswer c.in-Ok.formula c.args.self.task.options.steps a) c.in-Spent.is c.in_ok-values.ensures in (
      c.in-Ok.formula,
      view-formula c.args.self.task c.args.view c.args.joint.now c.in-Ok.formula c.requires.joint c.in-Ok.ensures.variables c.in-Ok.ensures.clauses,
      spent,
    )

pub returns : goal.returns
returns c =
    let full : IsFull c.in-Ok.formula c.args.self.task.options.steps c.in-LogFull.log =
    subst (λ (a : Answer). IsAnswer c.in-Ok.formula c.args.self.task.options.steps a) c.in-LogFull.is c.in_ok-values.ensures in (
      c.in-Ok.formula,
      view-formula c.args.self.task c.args.view c.args.joint.now c.in-Ok.formula c.requires.joint c.in-Ok.ensures.variables c.in-Ok.ensures.clauses,
      full,
    )
