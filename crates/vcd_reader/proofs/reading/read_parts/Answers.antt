use Rattle.std.proofs.Common.{◌∙◌, Result, sym, subst}
use Rattle.std.proofs.lemmas.Result.{err_from_is_err_and}
use Rattle.vcd_reader.specs.declared.fault.VcdFault.{VcdFault}
use Rattle.vcd_reader.specs.Running.{Outcome, Halts}
use Rattle.vcd_reader.proofs.Joining.{says_recording, sound_recording, fault_read}
use Rattle.vcd_reader.proofs.reading.read_parts.Goals as goal

pub returns-in_err-found-clause-err : goal.returns-in_err-found-clause-err
returns-in_err-found-clause-err c =
    let halts = rw c.new-cursor.ensures.all at c.in_err-found.ensures.err in
    let p = err_from_is_err_and c.from_residual.result c.from_residual.ensures.1 in
    rw (p.1, p.2) (λ unknown. fault_read unknown c.args.bytes.now c.in_err-found.field-0.0 halts)

pub returns-in_err-body-clause-err : goal.returns-in_err-body-clause-err
returns-in_err-body-clause-err c =
    let found = rw c.new-cursor.ensures.all at c.in_ok-found.ensures.ok in
    let halts = subst (λ (said : Result Outcome VcdFault). Halts c.in_err-body.field-0.0 said) (sym found) c.in_err-body.ensures.err in
    let p = err_from_is_err_and c.from_residual-in_err-body.result c.from_residual-in_err-body.ensures.1 in
    rw (p.1, p.2) (λ unknown. fault_read unknown c.args.bytes.now c.in_err-body.field-0.0 halts)

pub returns-clause-ok : goal.returns-clause-ok
returns-clause-ok c =
    let read = (rw c.new-cursor.ensures.all at c.in_ok-found.ensures.ok) ∙ c.in_ok-body.ensures.ok in
    λ unknown. rw (c.into_names.ensures.names, c.into_parts-changes.ensures.samples, c.into_parts-changes.ensures.changes, c.into_parts-changes.ensures.starts) (says_recording unknown c.args.bytes.now c.in_ok-found.found c.in_ok-body.body.told c.in_ok-body.body.changes c.in_ok-body.body.starts read)

pub returns-clause-sound : goal.returns-clause-sound
returns-clause-sound c =
    let read = (rw c.new-cursor.ensures.all at c.in_ok-found.ensures.ok) ∙ c.in_ok-body.ensures.ok in
    let within = rw c.into_names.ensures.names at c.into_names.ensures.within in
    let alike = rw c.into_names.ensures.names at c.into_names.ensures.alike in
    rw (c.into_names.ensures.names, c.into_parts-changes.ensures.samples, c.into_parts-changes.ensures.changes, c.into_parts-changes.ensures.starts) (sound_recording c.args.bytes.now c.in_ok-found.found c.in_ok-body.body.told c.in_ok-body.body.changes c.in_ok-body.body.starts c.requires read within alike)
