use Rattle.std.proofs.Common.{[], ◌∷◌}
use Rattle.std.proofs.lemmas.Result.{err_from_is_err_and}
use Rattle.commands.proofs.Composing.{stage-first, stage-reading}
use Rattle.commands.proofs.wave.wave.Goals as goal
use Rattle.commands.specs.Waves.{InputsStage, JudgedReading}

pub returns-in_err-inputs-clause-stage : goal.returns-in_err-inputs-clause-stage
returns-in_err-inputs-clause-stage g c =
    let p = err_from_is_err_and c.from_residual.result c.from_residual.ensures.1 in
    rw (p.1, p.2) (stage-first (c.args.unit.now ∷ c.args.recording.now ∷ []) [] (InputsStage c.args.unknown c.args.unit.now c.args.recording.now)
    (λ inputs files. JudgedReading c.args.points c.args.unknown c.args.unit.now c.args.recording.now inputs)
    (g.F.Shelf.state c.args.files.now) (g.F.Shelf.state c.load_inputs.new.files) _ c.in_err-inputs.ensures)

pub returns-clause-stage : goal.returns-clause-stage
returns-clause-stage g c =
    stage-reading (c.args.unit.now ∷ c.args.recording.now ∷ []) (InputsStage c.args.unknown c.args.unit.now c.args.recording.now)
    (JudgedReading c.args.points c.args.unknown c.args.unit.now c.args.recording.now)
    (g.F.Shelf.state c.args.files.now) (g.F.Shelf.state c.load_inputs.new.files) c.in_ok-inputs.inputs c.judge_inputs.result c.in_ok-inputs.ensures c.judge_inputs.ensures.reading
