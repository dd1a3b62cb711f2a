use Rattle.std.proofs.Common.{◌≡◌, ◌∙◌, refl, inl, inr}
use Rattle.std.specs.Option.{option_map}
use Rattle.sat_command.proofs.Ending.{prints-weaker}
use Rattle.sat_command.proofs.finish.finish_fault.Goals as goal
use Rattle.sat_command.specs.Endings.{IsToTell}
use Rattle.sat_command.specs.Requests.{asked_by}
use Rattle.sat_command.specs.declared.report.Fault.{Fault}
use Rattle.sat_command.specs.declared.report.Fault.TheVariants.{NoMemory}

pub returns-in-Ok-clause-printed : goal.returns-in-Ok-clause-printed
returns-in-Ok-clause-printed g c = λ out.
    prints-weaker (option_map asked_by c.args.request) (λ (other : Fault). other ≡ c.args.fault) (IsToTell c.args.fault) (λ other e. inl e)
    c.tell.result.answer c.tell.result.fault out out (g.E.Sink.state c.args.err.now) (g.E.Sink.state c.tell.new.err)
    (c.tell.ensures.printed (option_map asked_by c.args.request) out (c.as_slice.ensures ∙ c.in-Ok.ensures))

pub returns-in-Err-clause-printed : goal.returns-in-Err-clause-printed
returns-in-Err-clause-printed g c = λ out.
    prints-weaker (option_map asked_by c.args.request) (λ (other : Fault). other ≡ NoMemory) (IsToTell c.args.fault) (λ other e. inr e)
    c.tell-in-Err.result.answer c.tell-in-Err.result.fault out out (g.E.Sink.state c.args.err.now) (g.E.Sink.state c.tell-in-Err.new.err)
    (c.tell-in-Err.ensures.printed (option_map asked_by c.args.request) out refl)
