use Rattle.std.proofs.Common.{[], ◌∷◌}
use Rattle.std.proofs.lemmas.Result.{err_from_is_err_and}
use Rattle.commands.proofs.Composing.{reading-of-more, stage-first, stage-reading}
use Rattle.commands.proofs.show.show.Goals as goal
use Rattle.commands.specs.Waves.{InputsStage, LinesReading}
use Rattle.vcd_reader.specs.declared.unknown.Unknown.TheVariants.{Zero}

pub returns-in_err-inputs : goal.returns-in_err-inputs
returns-in_err-inputs g c =
    let p = err_from_is_err_and c.from_residual.result c.from_residual.ensures.1 in
    rw (p.1, p.2) (stage-first (c.args.unit.now ∷ c.args.names.now ∷ []) [] (InputsStage Zero c.args.unit.now c.args.names.now)
    (λ inputs files. LinesReading c.args.unit.now inputs.tree inputs.recording.names)
    (g.F.Shelf.state c.args.files.now) (g.F.Shelf.state c.load_inputs.new.files) _ c.in_err-inputs.ensures)

pub returns : goal.returns
returns g c =
    stage-reading (c.args.unit.now ∷ c.args.names.now ∷ []) (InputsStage Zero c.args.unit.now c.args.names.now) (λ inputs. LinesReading c.args.unit.now inputs.tree inputs.recording.names)
    (g.F.Shelf.state c.args.files.now) (g.F.Shelf.state c.load_inputs.new.files) c.in_ok-inputs.inputs c.lines.result c.in_ok-inputs.ensures
    (reading-of-more (c.args.unit.now ∷ []) (c.args.names.now ∷ []) (LinesReading c.args.unit.now c.in_ok-inputs.inputs.tree c.in_ok-inputs.inputs.recording.names) c.lines.result
    (rw c.names.ensures.names at c.lines.ensures))
