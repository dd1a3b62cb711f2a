use Rattle.std.proofs.Common.{[], ◌∷◌, ◌∙◌, ap, Ok, Err}
use Rattle.std.proofs.lemmas.Result.{err_from_is_err_and}
use Rattle.commands.proofs.Composing.{reading-of-more}
use Rattle.commands.proofs.Settling.{settled-reading, settled-verdicts, settled-memory}
use Rattle.commands.proofs.Staging.{reading-first, reading-then}
use Rattle.commands.proofs.wave.judge_inputs.Goals as goal
use Rattle.commands.specs.Waves.{DirectivesReading, SettledReading}

pub returns-in_err-directives-clause-reading : goal.returns-in_err-directives-clause-reading
returns-in_err-directives-clause-reading c =
    let p = err_from_is_err_and c.from_residual.result c.from_residual.ensures.1 in
    let First = DirectivesReading c.args.unit.now c.args.inputs.now.tree c.args.inputs.now.recording.names in
    let fails = rw c.names.ensures.names at c.in_err-directives.ensures.reading in
    rw (p.1, p.2) (reading-first First (SettledReading c.args.points c.args.unknown c.args.unit.now c.args.name.now c.args.inputs.now.recording)
    (c.args.unit.now ∷ c.args.name.now ∷ []) _ (reading-of-more (c.args.unit.now ∷ []) (c.args.name.now ∷ []) First _ fails))

pub returns-in_err-verdicts-clause-reading : goal.returns-in_err-verdicts-clause-reading
returns-in_err-verdicts-clause-reading c =
    let p = err_from_is_err_and c.from_residual-in_err-verdicts.result c.from_residual-in_err-verdicts.ensures.1 in
    let First = DirectivesReading c.args.unit.now c.args.inputs.now.tree c.args.inputs.now.recording.names in
    let gives = rw c.names.ensures.names at c.in_ok-directives.ensures.reading in
    rw (p.1, p.2) (reading-then First (SettledReading c.args.points c.args.unknown c.args.unit.now c.args.name.now c.args.inputs.now.recording)
    (c.args.unit.now ∷ c.args.name.now ∷ []) c.in_ok-directives.directives _
    (reading-of-more (c.args.unit.now ∷ []) (c.args.name.now ∷ []) First (Ok c.in_ok-directives.directives) gives)
    (settled-verdicts c.args.points c.args.unknown c.args.unit.now c.args.name.now c.args.inputs.now.recording c.in_ok-directives.directives _ c.in_err-verdicts.ensures.reading))

pub returns-in_err-settled-clause-reading : goal.returns-in_err-settled-clause-reading
returns-in_err-settled-clause-reading c =
    let p = err_from_is_err_and c.from_residual-in_err-settled.result c.from_residual-in_err-settled.ensures.1 in
    settled-memory (c.args.unit.now ∷ c.args.name.now ∷ []) _ _ (p.1 ∙ ap Err p.2)

pub returns-clause-reading : goal.returns-clause-reading
returns-clause-reading c =
    let First = DirectivesReading c.args.unit.now c.args.inputs.now.tree c.args.inputs.now.recording.names in
    let gives = rw c.names.ensures.names at c.in_ok-directives.ensures.reading in
    reading-then First (SettledReading c.args.points c.args.unknown c.args.unit.now c.args.name.now c.args.inputs.now.recording)
    (c.args.unit.now ∷ c.args.name.now ∷ []) c.in_ok-directives.directives _
    (reading-of-more (c.args.unit.now ∷ []) (c.args.name.now ∷ []) First (Ok c.in_ok-directives.directives) gives)
    (settled-reading c.args.points c.args.unknown c.args.unit.now c.args.name.now c.args.inputs.now.recording c.in_ok-directives.directives c.in_ok-verdicts.verdicts
    c.in_ok-settled.settled c.in_ok-verdicts.ensures.reading c.in_ok-settled.ensures.settled)
