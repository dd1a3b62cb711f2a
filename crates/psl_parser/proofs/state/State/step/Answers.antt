use Rattle.std.proofs.Common.{refl, sym, ◌∙◌, []}
use Rattle.psl_parser.proofs.Placing.{begins}
use Rattle.psl_parser.proofs.state.State.step.Goals as goal

pub returns-in-Outside-3-clause-step : goal.returns-in-Outside-3-clause-step
returns-in-Outside-3-clause-step c = λ from e.
    begins from c.args.token.now c.step.result (sym c.in-Outside-3.is ∙ e)
    (sym c.if-eq-2.ensures) (sym c.if-eq-3.ensures) (c.step.ensures.step [] refl)
