use Rattle.std.proofs.Common.{subst}
use Rattle.prover.proofs.Reached.{proved-reach}
use Rattle.prover.proofs.context.Prover.end_of.Goals as goal
use Rattle.prover.specs.Reaching.{joint_for}
use Rattle.reach.specs.Answers.{AreInductive, IsReached}
use Rattle.reach.specs.declared.answer.Reached.{Reached}

pub returns-in-Inductive-clause-stop : goal.returns-in-Inductive-clause-stop
returns-in-Inductive-clause-stop c =
    let are : AreInductive (joint_for c.args.self.task c.args.visits) c.args.self.task.options.steps
    c.in-Inductive.clauses c.in-Inductive.initial c.in-Inductive.step c.in-Inductive.bad =
    subst (λ (r : Reached). IsReached (joint_for c.args.self.task c.args.visits) c.args.self.task.options.depth
    c.args.self.task.options.steps r) c.in-Inductive.is c.requires.reached in
    proved-reach c.args.self.task c.args.visits c.in-Inductive.clauses c.in-Inductive.initial c.in-Inductive.step c.in-Inductive.bad
    c.requires.asked c.requires.few c.requires.fewer are
