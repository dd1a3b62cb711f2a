use Rattle.std.proofs.Common.{refl, map, string_bytes}
use Rattle.commands.proofs.Answering.{made-answers, no-command-answers}
use Rattle.commands.proofs.Progressing.{on-err-too}
use Rattle.commands.proofs.Saving.{planned-to-write}
use Rattle.commands.proofs.top.plan.Goals as goal
use Rattle.commands.specs.Progress.{quiet}
use Rattle.commands.specs.declared.finish.Planned.{Planned}

pub returns-in-Err-clause-answer : goal.returns-in-Err-clause-answer
returns-in-Err-clause-answer g c =
    no-command-answers (λ (made : Planned). made.outcome) (map string_bytes c.args.words.now) (g.F.Shelf.state c.args.files.now) _
    c.in-Err.ensures.fault

pub returns-in-Err-clause-told : goal.returns-in-Err-clause-told
returns-in-Err-clause-told g c = quiet refl

pub returns-in_err-outcome-clause-lost : goal.returns-in_err-outcome-clause-lost
returns-in_err-outcome-clause-lost g c =
    on-err-too c.from_residual.result (c.in_err-outcome.ensures.lost (map string_bytes c.args.words.now) c.in-Ok.ensures.command)

pub returns-in-Ok-2-clause-answer : goal.returns-in-Ok-2-clause-answer
returns-in-Ok-2-clause-answer g c =
    made-answers (map string_bytes c.args.words.now) (g.F.Shelf.state c.args.files.now) (g.F.Shelf.state c.outcome.new.files) c.in-Ok-2.outcome c.made.result
    (rw c.in-Ok-2.is at (c.in_ok-outcome.ensures.answer (map string_bytes c.args.words.now) c.in-Ok.ensures.command)) c.made.ensures.outcome c.made.ensures.memory

pub returns-in-Ok-2-clause-saves : goal.returns-in-Ok-2-clause-saves
returns-in-Ok-2-clause-saves g c =
    planned-to-write (map string_bytes c.args.words.now) _ c.in-Ok-2.outcome c.made.result _ c.in-Ok.ensures.command c.wanted_of.ensures
    c.made.ensures.outcome c.made.ensures.saves

pub returns-in-Ok-2-clause-told : goal.returns-in-Ok-2-clause-told
returns-in-Ok-2-clause-told g c = c.in_ok-outcome.ensures.told (map string_bytes c.args.words.now) c.in-Ok.ensures.command

pub returns-in-Err-2-clause-told : goal.returns-in-Err-2-clause-told
returns-in-Err-2-clause-told g c = c.in_ok-outcome.ensures.told (map string_bytes c.args.words.now) c.in-Ok.ensures.command
