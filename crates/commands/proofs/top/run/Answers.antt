use Rattle.std.proofs.Common.{◌≡◌, ◌<◌, refl, sym, ap, subst, ℕ, [], map, string_bytes, Some, inl, inr}
use Rattle.std.specs.Prelude.{◌⊎◌}
use Rattle.psl_base.specs.Faults.{Rose}
use Rattle.psl_base.specs.Saves.{SavesPart, file_of}
use Rattle.commands.proofs.Completing.{completes, no-cause, run-explained}
use Rattle.commands.proofs.Ending.{prints-weaker, had-to-tell, run-named, run-unread, run-command, run-outcome, run-nothing, run-counted}
use Rattle.commands.proofs.Progressing.{lost-rose, progress-faults, write-unread}
use Rattle.commands.proofs.Saving.{fails-planned, run-saved}
use Rattle.commands.proofs.top.run.Goals as goal
use Rattle.commands.specs.Commands.{FirstRefusal, HadToTell}
use Rattle.commands.specs.Endings.{Explained, IsToTell}
use Rattle.commands.specs.Faults.{fault_of}
use Rattle.commands.specs.Progress.{ended, stopped}
use Rattle.commands.specs.Saved.{FailsPlanned, FailsToWrite, of_nothing}
use Rattle.commands.specs.declared.finish.Planned.{Planned}

pub returns-in-Ok-clause-complete : goal.returns-in-Ok-clause-complete
returns-in-Ok-clause-complete g c told tells read unwritten no_out no_err =
    let out = Rose (g.O.Sink.state c.args.out.now).faults (g.O.Sink.state c.finish.new.out).faults in
    let err = Rose (g.E.Sink.state c.plan.new.err).faults (g.E.Sink.state c.finish.new.err).faults in
    let same : (g.E.Sink.state c.plan.new.err).faults ≡ (g.E.Sink.state c.args.err.now).faults =
    progress-faults (map string_bytes c.args.words.now) (g.F.Shelf.state c.args.files.now) (g.E.Sink.state c.args.err.now) (g.E.Sink.state c.plan.new.err) c.in-Ok.ensures.told in
    let words = map string_bytes c.args.words.now in
    let old = g.F.Shelf.state c.args.files.now in
    let mid = g.F.Shelf.state c.plan.new.files in
    let new = g.F.Shelf.state c.finish.new.files in
    completes (out ⊎ (err ⊎ FailsToWrite words c.finish.result.outcome old new)) old new (FirstRefusal words) told tells read
    (no-cause out err words c.finish.result.outcome old new no_out
    (λ rose. no_err (subst (λ (count : ℕ). Rose count (g.E.Sink.state c.finish.new.err).faults) same rose)) unwritten) c.finish.result.fault
    (run-explained out err words old mid new c.finish.result.outcome c.finish.result.fault c.in-Ok.planned c.in-Ok.ensures.answer.kept
    c.in-Ok.ensures.answer.explained c.in-Ok.ensures.saves c.finish.ensures.untouched c.finish.ensures.made c.finish.ensures.faulted)

pub returns-in-Ok-clause-cause : goal.returns-in-Ok-clause-cause
returns-in-Ok-clause-cause g c =
    subst (λ (count : ℕ). Explained (Rose (g.O.Sink.state c.args.out.now).faults (g.O.Sink.state c.finish.new.out).faults
    ⊎ (Rose count (g.E.Sink.state c.finish.new.err).faults
    ⊎ FailsToWrite (map string_bytes c.args.words.now) c.finish.result.outcome (g.F.Shelf.state c.args.files.now) (g.F.Shelf.state c.finish.new.files)))
    (g.F.Shelf.state c.args.files.now) (g.F.Shelf.state c.finish.new.files) (FirstRefusal (map string_bytes c.args.words.now)) c.finish.result.fault)
    (progress-faults (map string_bytes c.args.words.now) (g.F.Shelf.state c.args.files.now) (g.E.Sink.state c.args.err.now) (g.E.Sink.state c.plan.new.err) c.in-Ok.ensures.told)
    (run-explained (Rose (g.O.Sink.state c.args.out.now).faults (g.O.Sink.state c.finish.new.out).faults)
    (Rose (g.E.Sink.state c.plan.new.err).faults (g.E.Sink.state c.finish.new.err).faults)
    (map string_bytes c.args.words.now) (g.F.Shelf.state c.args.files.now) (g.F.Shelf.state c.plan.new.files) (g.F.Shelf.state c.finish.new.files)
    c.finish.result.outcome c.finish.result.fault c.in-Ok.planned c.in-Ok.ensures.answer.kept c.in-Ok.ensures.answer.explained
    c.in-Ok.ensures.saves c.finish.ensures.untouched c.finish.ensures.made c.finish.ensures.faulted)

pub returns-in-Ok-clause-named : goal.returns-in-Ok-clause-named
returns-in-Ok-clause-named g c =
    run-named (λ (made : Planned). Rose (g.O.Sink.state c.args.out.now).faults (g.O.Sink.state c.finish.new.out).faults
    ⊎ SavesPart (map file_of made.saves) (g.F.Shelf.state c.plan.new.files) (g.F.Shelf.state c.finish.new.files))
    (Rose (g.E.Sink.state c.plan.new.err).faults (g.E.Sink.state c.finish.new.err).faults)
    c.finish.result.outcome c.finish.result.fault (map string_bytes c.args.words.now) c.in-Ok.planned c.in-Ok.ensures.answer.named c.finish.ensures.made c.finish.ensures.faulted

pub returns-in-Ok-clause-unread : goal.returns-in-Ok-clause-unread
returns-in-Ok-clause-unread g c =
    run-unread (λ (made : Planned). Rose (g.O.Sink.state c.args.out.now).faults (g.O.Sink.state c.finish.new.out).faults
    ⊎ SavesPart (map file_of made.saves) (g.F.Shelf.state c.plan.new.files) (g.F.Shelf.state c.finish.new.files))
    (Rose (g.E.Sink.state c.plan.new.err).faults (g.E.Sink.state c.finish.new.err).faults)
    c.finish.result.outcome c.finish.result.fault (g.F.Shelf.state c.plan.new.files) (g.F.Shelf.state c.finish.new.files) c.in-Ok.planned
    c.finish.ensures.untouched c.in-Ok.ensures.answer.unread c.finish.ensures.made c.finish.ensures.faulted

pub returns-in-Ok-clause-command : goal.returns-in-Ok-clause-command
returns-in-Ok-clause-command g c =
    run-command (λ (made : Planned). Rose (g.O.Sink.state c.args.out.now).faults (g.O.Sink.state c.finish.new.out).faults
    ⊎ SavesPart (map file_of made.saves) (g.F.Shelf.state c.plan.new.files) (g.F.Shelf.state c.finish.new.files))
    (Rose (g.E.Sink.state c.plan.new.err).faults (g.E.Sink.state c.finish.new.err).faults)
    c.finish.result.outcome c.finish.result.fault (map string_bytes c.args.words.now) c.in-Ok.planned c.in-Ok.ensures.answer.command c.finish.ensures.made c.finish.ensures.faulted

pub returns-in-Ok-clause-nothing : goal.returns-in-Ok-clause-nothing
returns-in-Ok-clause-nothing g c =
    run-nothing (λ (made : Planned). Rose (g.O.Sink.state c.args.out.now).faults (g.O.Sink.state c.finish.new.out).faults
    ⊎ SavesPart (map file_of made.saves) (g.F.Shelf.state c.plan.new.files) (g.F.Shelf.state c.finish.new.files))
    (Rose (g.E.Sink.state c.plan.new.err).faults (g.E.Sink.state c.finish.new.err).faults)
    c.finish.result.outcome c.finish.result.fault c.in-Ok.planned c.finish.ensures.made c.finish.ensures.faulted

pub returns-in-Ok-clause-counted : goal.returns-in-Ok-clause-counted
returns-in-Ok-clause-counted g c rises =
    run-counted (λ (made : Planned). Rose (g.O.Sink.state c.args.out.now).faults (g.O.Sink.state c.finish.new.out).faults
    ⊎ SavesPart (map file_of made.saves) (g.F.Shelf.state c.plan.new.files) (g.F.Shelf.state c.finish.new.files))
    (Rose (g.E.Sink.state c.plan.new.err).faults (g.E.Sink.state c.finish.new.err).faults)
    (FailsPlanned c.in-Ok.planned (g.F.Shelf.state c.plan.new.files) (g.F.Shelf.state c.finish.new.files)) (IsToTell (fault_of c.in-Ok.planned))
    c.finish.result.outcome c.finish.result.fault c.finish.result.status c.finish.ensures.status
    (g.F.Shelf.state c.args.files.now) (g.F.Shelf.state c.plan.new.files) (g.F.Shelf.state c.finish.new.files)
    (g.O.Sink.state c.args.out.now) (g.O.Sink.state c.finish.new.out) (g.E.Sink.state c.plan.new.err) (g.E.Sink.state c.finish.new.err)
    c.in-Ok.planned c.in-Ok.ensures.answer.kept c.in-Ok.ensures.answer.quiet c.in-Ok.ensures.answer.counted c.in-Ok.ensures.answer.unwritten
    c.finish.ensures.saved c.finish.ensures.untouched c.finish.ensures.made c.finish.ensures.faulted c.finish.ensures.printed
    (subst (λ (count : ℕ). ((g.F.Shelf.state c.args.files.now).read_faults < (g.F.Shelf.state c.finish.new.files).read_faults)
    ⊎ (((g.F.Shelf.state c.args.files.now).write_faults < (g.F.Shelf.state c.finish.new.files).write_faults)
    ⊎ (((g.O.Sink.state c.args.out.now).faults < (g.O.Sink.state c.finish.new.out).faults) ⊎ (count < (g.E.Sink.state c.finish.new.err).faults))))
    (sym (progress-faults (map string_bytes c.args.words.now) (g.F.Shelf.state c.args.files.now) (g.E.Sink.state c.args.err.now) (g.E.Sink.state c.plan.new.err) c.in-Ok.ensures.told)) rises)

pub returns-in-Ok-clause-printed : goal.returns-in-Ok-clause-printed
returns-in-Ok-clause-printed g c =
    let words = map string_bytes c.args.words.now in
    let old = g.F.Shelf.state c.args.files.now in
    let mid = g.F.Shelf.state c.plan.new.files in
    let new = g.F.Shelf.state c.finish.new.files in
    ended (g.E.Sink.state c.plan.new.err) c.in-Ok.ensures.told (prints-weaker (FailsPlanned c.in-Ok.planned mid new) (FailsToWrite words c.finish.result.outcome old new)
    (fails-planned words c.finish.result.outcome c.finish.result.fault _ old mid new c.in-Ok.planned c.in-Ok.ensures.answer.kept
    c.in-Ok.ensures.saves c.finish.ensures.made)
    (IsToTell (fault_of c.in-Ok.planned)) (HadToTell words old new)
    (had-to-tell words old mid new c.in-Ok.planned c.finish.ensures.untouched c.in-Ok.ensures.answer.explained)
    c.finish.result.outcome c.finish.result.fault (g.O.Sink.state c.args.out.now) (g.O.Sink.state c.finish.new.out) (g.E.Sink.state c.plan.new.err) (g.E.Sink.state c.finish.new.err)
    c.finish.ensures.printed)

pub returns-in-Ok-clause-outcome : goal.returns-in-Ok-clause-outcome
returns-in-Ok-clause-outcome g c =
    run-outcome (λ (made : Planned). Rose (g.O.Sink.state c.args.out.now).faults (g.O.Sink.state c.finish.new.out).faults
    ⊎ SavesPart (map file_of made.saves) (g.F.Shelf.state c.plan.new.files) (g.F.Shelf.state c.finish.new.files))
    (Rose (g.E.Sink.state c.plan.new.err).faults (g.E.Sink.state c.finish.new.err).faults)
    c.finish.result.outcome c.finish.result.fault (map string_bytes c.args.words.now) (g.F.Shelf.state c.args.files.now) c.in-Ok.planned
    c.in-Ok.ensures.answer.outcome c.finish.ensures.made c.finish.ensures.faulted

pub returns-in-Ok-clause-saved : goal.returns-in-Ok-clause-saved
returns-in-Ok-clause-saved g c =
    run-saved (map string_bytes c.args.words.now) c.finish.result.outcome c.finish.result.fault
    (λ (made : Planned). Rose (g.O.Sink.state c.args.out.now).faults (g.O.Sink.state c.finish.new.out).faults
    ⊎ SavesPart (map file_of made.saves) (g.F.Shelf.state c.plan.new.files) (g.F.Shelf.state c.finish.new.files))
    (Rose (g.E.Sink.state c.plan.new.err).faults (g.E.Sink.state c.finish.new.err).faults)
    (g.F.Shelf.state c.args.files.now) (g.F.Shelf.state c.plan.new.files) (g.F.Shelf.state c.finish.new.files) c.in-Ok.planned
    c.in-Ok.ensures.answer.kept c.in-Ok.ensures.answer.quiet c.in-Ok.ensures.saves c.finish.ensures.saved c.finish.ensures.untouched
    c.finish.ensures.made c.finish.ensures.faulted

pub returns-in-Err-clause-status : goal.returns-in-Err-clause-status
returns-in-Err-clause-status g c =
    rw c.of_none.ensures refl

pub returns-in-Err-clause-cause : goal.returns-in-Err-clause-cause
returns-in-Err-clause-cause g c =
    rw c.of_none.ensures (inr (inl (lost-rose (map string_bytes c.args.words.now) (g.F.Shelf.state c.args.files.now) (g.E.Sink.state c.args.err.now) (g.E.Sink.state c.plan.new.err)
    c.in-Err.ensures.lost)))

pub returns-in-Err-clause-no_command : goal.returns-in-Err-clause-no_command
returns-in-Err-clause-no_command g c =
    λ none. inr (inl (ap Some c.of_none.ensures))

pub returns-in-Err-clause-named : goal.returns-in-Err-clause-named
returns-in-Err-clause-named g c =
    rw c.of_none.ensures (inr (inl refl))

pub returns-in-Err-clause-unread : goal.returns-in-Err-clause-unread
returns-in-Err-clause-unread g c =
    write-unread (g.F.Shelf.state c.plan.new.files) c.of_none.result c.of_none.ensures

pub returns-in-Err-clause-command : goal.returns-in-Err-clause-command
returns-in-Err-clause-command g c =
    inl refl

pub returns-in-Err-clause-outcome : goal.returns-in-Err-clause-outcome
returns-in-Err-clause-outcome g c =
    λ files told. inl refl

pub returns-in-Err-clause-nothing : goal.returns-in-Err-clause-nothing
returns-in-Err-clause-nothing g c =
    inr refl

pub returns-in-Err-clause-printed : goal.returns-in-Err-clause-printed
returns-in-Err-clause-printed g c =
    stopped refl (ap Some c.of_none.ensures) refl c.in-Err.ensures.lost

pub returns-in-Err-clause-counted : goal.returns-in-Err-clause-counted
returns-in-Err-clause-counted g c =
    λ rises. inr (inl refl)

pub returns-in-Err-clause-complete : goal.returns-in-Err-clause-complete
returns-in-Err-clause-complete g c told tells read unwritten no_out no_err =
    absurd (no_err (lost-rose (map string_bytes c.args.words.now) (g.F.Shelf.state c.args.files.now) (g.E.Sink.state c.args.err.now) (g.E.Sink.state c.plan.new.err)
    c.in-Err.ensures.lost))

pub returns-in-Err-clause-saved : goal.returns-in-Err-clause-saved
returns-in-Err-clause-saved g c =
    record { files = []; are = of_nothing refl refl; saved = c.in-Err.ensures.kept }
