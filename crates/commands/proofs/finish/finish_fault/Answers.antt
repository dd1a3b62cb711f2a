use Rattle.std.proofs.Common.{◌≡◌, ◌∙◌, sym, ap, Some, inl, inr}
use Rattle.commands.proofs.Ending.{prints-weaker}
use Rattle.commands.proofs.finish.finish_fault.Goals as goal
use Rattle.commands.specs.Endings.{IsToTell}
use Rattle.commands.specs.declared.outcome.Fault.{Fault}

pub returns-in-Ok-clause-printed : goal.returns-in-Ok-clause-printed
returns-in-Ok-clause-printed g c = λ out.
    prints-weaker ⊥ ⊥ (λ x. x) (λ (other : Fault). other ≡ c.args.fault) (IsToTell (Some c.args.fault)) (λ other e. inl (ap Some (sym e))) c.tell.result.outcome c.tell.result.fault
    out out (g.E.Sink.state c.args.err.now) (g.E.Sink.state c.tell.new.err) (c.tell.ensures.printed out)

pub returns-in-Err-clause-printed : goal.returns-in-Err-clause-printed
returns-in-Err-clause-printed g c = λ out.
    prints-weaker ⊥ ⊥ (λ x. x) (λ (other : Fault). other ≡ c.of_none.result) (IsToTell (Some c.args.fault)) (λ other e. inr (e ∙ c.of_none.ensures)) c.tell-in-Err.result.outcome
    c.tell-in-Err.result.fault out out (g.E.Sink.state c.args.err.now) (g.E.Sink.state c.tell-in-Err.new.err) (c.tell-in-Err.ensures.printed out)
