use Rattle.std.proofs.lemmas.Result.{err_from_is_err_and}
use Rattle.commands.proofs.Thirds.{third-first, third-reading, third-second}
use Rattle.commands.proofs.replayed.replay_files.Goals as goal
use Rattle.commands.specs.Replays.{ReplayedReading}
use Rattle.commands.specs.Waves.{CircuitStage, RecordingStage}
use Rattle.vcd_reader.specs.declared.unknown.Unknown.TheVariants.{Zero}

pub returns-in_err-circuit : goal.returns-in_err-circuit
returns-in_err-circuit g c =
    let p = err_from_is_err_and c.from_residual.result c.from_residual.ensures.1 in
    rw (p.1, p.2) (third-first c.args.unit.now c.args.netlist.now c.args.recording.now (CircuitStage c.args.unit.now c.args.netlist.now) (RecordingStage Zero c.args.recording.now)
    (ReplayedReading c.args.unit.now c.args.recording.now) (g.F.Shelf.state c.args.files.now) (g.F.Shelf.state c.load_circuit.new.files) _ c.in_err-circuit.ensures.stage)

pub returns-in_err-sampled : goal.returns-in_err-sampled
returns-in_err-sampled g c =
    let p = err_from_is_err_and c.from_residual-in_err-sampled.result c.from_residual-in_err-sampled.ensures.1 in
    rw (p.1, p.2) (third-second c.args.unit.now c.args.netlist.now c.args.recording.now (CircuitStage c.args.unit.now c.args.netlist.now) (RecordingStage Zero c.args.recording.now)
    (ReplayedReading c.args.unit.now c.args.recording.now) (g.F.Shelf.state c.args.files.now) (g.F.Shelf.state c.load_circuit.new.files)
    (g.F.Shelf.state c.load_recording.new.files) c.in_ok-circuit.circuit _ c.in_ok-circuit.ensures.stage c.in_err-sampled.ensures)

pub returns : goal.returns
returns g c =
    third-reading c.args.unit.now c.args.netlist.now c.args.recording.now (CircuitStage c.args.unit.now c.args.netlist.now) (RecordingStage Zero c.args.recording.now)
    (ReplayedReading c.args.unit.now c.args.recording.now) (g.F.Shelf.state c.args.files.now) (g.F.Shelf.state c.load_circuit.new.files)
    (g.F.Shelf.state c.load_recording.new.files) c.in_ok-circuit.circuit c.in_ok-sampled.sampled c.replay_of.result c.in_ok-circuit.ensures.stage c.in_ok-sampled.ensures
    c.replay_of.ensures
