use Rattle.std.proofs.lemmas.Result.{IfOk-weaker}
use Rattle.cdcl.specs.Answers.{IsModelOf}
use Rattle.cdcl.specs.Turns.{AreValues}
use Rattle.cdcl.proofs.Modelling.{model_of}
use Rattle.cdcl.proofs.solver.Solver.model.Goals as goal

pub returns : goal.returns
returns c =
    let solver = c.args.self.now in
    let are = rw c.trail.ensures.is at c.values.ensures in
    IfOk-weaker c.values.result (AreValues solver.propagator.path solver.formula.now.variables) (IsModelOf solver.formula.now)
    (λ values at. model_of solver.formula.now solver.propagator solver.log values c.requires.ready.variables c.requires.ready.logged.clauses_are c.trail.ensures.settled c.requires.solved at)
    are
