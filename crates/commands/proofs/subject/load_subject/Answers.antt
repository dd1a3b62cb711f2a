use Rattle.std.proofs.Common.{[], ◌∷◌}
use Rattle.std.proofs.lemmas.Result.{err_from_is_err_and}
use Rattle.commands.proofs.Composing.{reading-of-more, stage-first, stage-reading}
use Rattle.commands.proofs.subject.load_subject.Goals as goal
use Rattle.commands.specs.Waves.{CircuitStage, SubjectReading}

pub returns-in_err-circuit-clause-stage : goal.returns-in_err-circuit-clause-stage
returns-in_err-circuit-clause-stage g c =
    let p = err_from_is_err_and c.from_residual.result c.from_residual.ensures.1 in
    rw (p.1, p.2) (stage-first (c.args.unit.now ∷ c.args.netlist.now ∷ []) [] (CircuitStage c.args.unit.now c.args.netlist.now)
    (λ circuit files. SubjectReading c.args.unit.now circuit)
    (g.F.Shelf.state c.args.files.now) (g.F.Shelf.state c.load_circuit.new.files) _ c.in_err-circuit.ensures.stage)

pub returns-clause-stage : goal.returns-clause-stage
returns-clause-stage g c =
    stage-reading (c.args.unit.now ∷ c.args.netlist.now ∷ []) (CircuitStage c.args.unit.now c.args.netlist.now) (SubjectReading c.args.unit.now)
    (g.F.Shelf.state c.args.files.now) (g.F.Shelf.state c.load_circuit.new.files) c.in_ok-circuit.circuit c.subject_of.result c.in_ok-circuit.ensures.stage
    (reading-of-more (c.args.unit.now ∷ []) (c.args.netlist.now ∷ []) (SubjectReading c.args.unit.now c.in_ok-circuit.circuit) c.subject_of.result c.subject_of.ensures.reading)
