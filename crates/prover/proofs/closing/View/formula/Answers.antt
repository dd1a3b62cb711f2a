use Rattle.prover.proofs.closing.View.formula.Goals as goal

pub returns-then-self-clause-models : goal.returns-then-self-clause-models
returns-then-self-clause-models c = rw c.if-self.true c.base.ensures.models

pub returns-else-self-clause-models : goal.returns-else-self-clause-models
returns-else-self-clause-models c = rw c.if-self.false c.induction.ensures.models
