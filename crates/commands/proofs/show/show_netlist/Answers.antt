use Rattle.std.proofs.Common.{[], ◌∷◌}
use Rattle.std.proofs.lemmas.Result.{err_from_is_err_and}
use Rattle.commands.proofs.Composing.{reading-of-more, stage-first, stage-reading}
use Rattle.commands.proofs.show.show_netlist.Goals as goal
use Rattle.commands.specs.Waves.{CircuitStage, LinesReading}

pub returns-in_err-circuit : goal.returns-in_err-circuit
returns-in_err-circuit g c =
    let p = err_from_is_err_and c.from_residual.result c.from_residual.ensures.1 in
    rw (p.1, p.2) (stage-first (c.args.unit.now ∷ c.args.netlist.now ∷ []) [] (CircuitStage c.args.unit.now c.args.netlist.now)
    (λ circuit files. LinesReading c.args.unit.now circuit.tree circuit.netlist.names)
    (g.F.Shelf.state c.args.files.now) (g.F.Shelf.state c.load_circuit.new.files) _ c.in_err-circuit.ensures.stage)

pub returns : goal.returns
returns g c =
    stage-reading (c.args.unit.now ∷ c.args.netlist.now ∷ []) (CircuitStage c.args.unit.now c.args.netlist.now) (λ circuit. LinesReading c.args.unit.now circuit.tree circuit.netlist.names)
    (g.F.Shelf.state c.args.files.now) (g.F.Shelf.state c.load_circuit.new.files) c.in_ok-circuit.circuit c.lines.result c.in_ok-circuit.ensures.stage
    (reading-of-more (c.args.unit.now ∷ []) (c.args.netlist.now ∷ []) (LinesReading c.args.unit.now c.in_ok-circuit.circuit.tree c.in_ok-circuit.circuit.netlist.names) c.lines.result
    (rw c.names.ensures.names at c.lines.ensures))
