use Rattle.std.specs.Option.{option_map}
use Rattle.psl_base.specs.Faults.{Rose}
use Rattle.sat_command.proofs.Ending.{answer-cause, answer-counted, answer-saved, fault-counted, had-to-tell, prints-weaker}
use Rattle.sat_command.proofs.top.run.Goals as goal
use Rattle.sat_command.specs.Endings.{IsToTell}
use Rattle.sat_command.specs.Refusals.{IsRefusal}
use Rattle.sat_command.specs.Requests.{asked_by}
use Rattle.sat_command.specs.declared.report.Fault.{Fault}

pub returns-in-Ok-clause-cause : goal.returns-in-Ok-clause-cause
returns-in-Ok-clause-cause g c =
    rw (← c.request_of-request.ensures) (answer-cause (option_map asked_by c.request_of-request.result) c.in-Ok.planned.answer c.finish_answer.result.answer c.finish_answer.ensures.answer
    c.in-Ok.planned.saves c.in-Ok.ensures.saves (g.F.Shelf.state c.args.files.now) (g.F.Shelf.state c.plan.new.files) (g.F.Shelf.state c.finish_answer.new.files)
    c.in-Ok.ensures.rest c.in-Ok.ensures.quiet c.finish_answer.ensures.rest
    (Rose (g.O.Sink.state c.args.out.now).faults (g.O.Sink.state c.finish_answer.new.out).faults) c.finish_answer.result.fault c.finish_answer.ensures.ends
    (Rose (g.E.Sink.state c.args.err.now).faults (g.E.Sink.state c.finish_answer.new.err).faults))

pub returns-in-Ok-clause-saved : goal.returns-in-Ok-clause-saved
returns-in-Ok-clause-saved g c =
    rw (← c.request_of-request.ensures) (answer-saved (option_map asked_by c.request_of-request.result) c.in-Ok.planned.answer c.finish_answer.result.answer c.finish_answer.ensures.answer
    c.in-Ok.planned.saves c.in-Ok.ensures.saves (g.F.Shelf.state c.args.files.now) (g.F.Shelf.state c.plan.new.files) (g.F.Shelf.state c.finish_answer.new.files)
    c.in-Ok.ensures.rest c.in-Ok.ensures.quiet c.finish_answer.ensures.rest
    (Rose (g.O.Sink.state c.args.out.now).faults (g.O.Sink.state c.finish_answer.new.out).faults) c.finish_answer.result.fault c.finish_answer.ensures.ends
    c.finish_answer.ensures.none)

pub returns-in-Ok-clause-printed : goal.returns-in-Ok-clause-printed
returns-in-Ok-clause-printed g c =
    rw (← c.request_of-request.ensures) (prints-weaker (option_map asked_by c.request_of-request.result) (λ (_ : Fault). ⊥)
    (IsRefusal (option_map asked_by c.request_of-request.result) (g.F.Shelf.state c.args.files.now) (g.F.Shelf.state c.finish_answer.new.files)) (λ f none. absurd none)
    c.finish_answer.result.answer c.finish_answer.result.fault (g.O.Sink.state c.args.out.now) (g.O.Sink.state c.finish_answer.new.out) (g.E.Sink.state c.args.err.now)
    (g.E.Sink.state c.finish_answer.new.err) (c.finish_answer.ensures.printed (option_map asked_by c.request_of-request.result)))

pub returns-in-Ok-clause-counted : goal.returns-in-Ok-clause-counted
returns-in-Ok-clause-counted g c =
    answer-counted (option_map asked_by c.request_of-request.result) c.in-Ok.planned.answer c.finish_answer.result.answer c.finish_answer.ensures.answer
    c.in-Ok.planned.saves c.in-Ok.ensures.saves (g.F.Shelf.state c.args.files.now) (g.F.Shelf.state c.plan.new.files) (g.F.Shelf.state c.finish_answer.new.files)
    c.in-Ok.ensures.rest c.in-Ok.ensures.quiet c.finish_answer.ensures.rest
    (Rose (g.O.Sink.state c.args.out.now).faults (g.O.Sink.state c.finish_answer.new.out).faults) c.finish_answer.result.fault c.finish_answer.ensures.ends
    (λ (_ : Fault). ⊥) (g.O.Sink.state c.args.out.now) (g.O.Sink.state c.finish_answer.new.out) (g.E.Sink.state c.args.err.now)
    (g.E.Sink.state c.finish_answer.new.err) c.finish_answer.result.status c.finish_answer.ensures.status (c.finish_answer.ensures.printed (option_map asked_by c.request_of-request.result))

pub returns-in-Err-clause-printed : goal.returns-in-Err-clause-printed
returns-in-Err-clause-printed g c =
    rw (← c.request_of-request.ensures) (prints-weaker (option_map asked_by c.request_of-request.result) (IsToTell c.in-Err.fault)
    (IsRefusal (option_map asked_by c.request_of-request.result) (g.F.Shelf.state c.args.files.now) (g.F.Shelf.state c.plan.new.files))
    (had-to-tell (option_map asked_by c.request_of-request.result) c.finish_fault.result.answer c.in-Err.fault c.in-Err.ensures.unwritten
    (g.F.Shelf.state c.args.files.now) (g.F.Shelf.state c.plan.new.files) c.in-Err.ensures.refused
    (Rose (g.E.Sink.state c.args.err.now).faults (g.E.Sink.state c.finish_fault.new.err).faults) c.finish_fault.result.fault c.finish_fault.ensures.ends)
    c.finish_fault.result.answer c.finish_fault.result.fault (g.O.Sink.state c.args.out.now) (g.O.Sink.state c.args.out.now) (g.E.Sink.state c.args.err.now)
    (g.E.Sink.state c.finish_fault.new.err) (c.finish_fault.ensures.printed (g.O.Sink.state c.args.out.now)))

pub returns-in-Err-clause-counted : goal.returns-in-Err-clause-counted
returns-in-Err-clause-counted g c =
    fault-counted (option_map asked_by c.request_of-request.result) c.finish_fault.result.answer c.in-Err.fault c.in-Err.ensures.unwritten
    (g.F.Shelf.state c.args.files.now) (g.F.Shelf.state c.plan.new.files) c.in-Err.ensures.refused
    (Rose (g.E.Sink.state c.args.err.now).faults (g.E.Sink.state c.finish_fault.new.err).faults) c.finish_fault.result.fault c.finish_fault.ensures.ends
    c.plan.ensures.rest c.in-Err.ensures.counted (IsToTell c.in-Err.fault) (g.O.Sink.state c.args.out.now) (g.E.Sink.state c.args.err.now)
    (g.E.Sink.state c.finish_fault.new.err) c.finish_fault.result.status c.finish_fault.ensures.status (c.finish_fault.ensures.printed (g.O.Sink.state c.args.out.now))
