use Rattle.std.proofs.lemmas.Result.{err_from_is_err_and}
use Rattle.commands.proofs.Composing.{both-first, both-second, both-loaded}
use Rattle.commands.proofs.inputs.load_inputs.Goals as goal
use Rattle.commands.specs.Waves.{UnitStage, RecordingStage, with_recording}

pub returns-in_err-tree : goal.returns-in_err-tree
returns-in_err-tree g c =
    let p = err_from_is_err_and c.from_residual.result c.from_residual.ensures.1 in
    rw (p.1, p.2) (both-first c.args.unit.now c.args.recording.now (UnitStage c.args.unit.now) (RecordingStage c.args.unknown c.args.recording.now) with_recording
    (g.F.Shelf.state c.args.files.now) (g.F.Shelf.state c.load_unit.new.files) _ c.in_err-tree.ensures)

pub returns-in_err-recording : goal.returns-in_err-recording
returns-in_err-recording g c =
    let p = err_from_is_err_and c.from_residual-in_err-recording.result c.from_residual-in_err-recording.ensures.1 in
    rw (p.1, p.2) (both-second c.args.unit.now c.args.recording.now (UnitStage c.args.unit.now) (RecordingStage c.args.unknown c.args.recording.now) with_recording
    (g.F.Shelf.state c.args.files.now) (g.F.Shelf.state c.load_unit.new.files) (g.F.Shelf.state c.load_recording.new.files) c.in_ok-tree.tree _
    c.in_ok-tree.ensures c.in_err-recording.ensures)

pub returns : goal.returns
returns g c =
    both-loaded c.args.unit.now c.args.recording.now (UnitStage c.args.unit.now) (RecordingStage c.args.unknown c.args.recording.now) with_recording
    (g.F.Shelf.state c.args.files.now) (g.F.Shelf.state c.load_unit.new.files) (g.F.Shelf.state c.load_recording.new.files) c.in_ok-tree.tree c.in_ok-recording.recording
    c.in_ok-tree.ensures c.in_ok-recording.ensures
