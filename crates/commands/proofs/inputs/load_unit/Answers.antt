use Rattle.std.proofs.lemmas.Result.{err_from_is_err_and}
use Rattle.commands.proofs.Composing.{stage-unloaded, stage-loaded}
use Rattle.commands.proofs.inputs.load_unit.Goals as goal
use Rattle.commands.specs.Waves.{UnitReading}

pub returns-in_err-text : goal.returns-in_err-text
returns-in_err-text g c =
    let p = err_from_is_err_and c.from_residual.result c.from_residual.ensures.1 in
    rw (p.1, p.2) (stage-unloaded (UnitReading c.args.name.now) c.args.name.now (g.F.Shelf.state c.args.files.now) (g.F.Shelf.state c.load.new.files) _
    c.in_err-text.ensures.refuses c.in_err-text.ensures.counted c.load.ensures.kept)

pub returns : goal.returns
returns g c =
    stage-loaded (UnitReading c.args.name.now) c.args.name.now (g.F.Shelf.state c.args.files.now) (g.F.Shelf.state c.load.new.files) c.in_ok-text.text c.parse_text.result
    c.in_ok-text.ensures.content c.in_ok-text.ensures.within c.in_ok-text.ensures.quiet c.load.ensures.kept (rw c.as_slice.ensures at c.parse_text.ensures)
