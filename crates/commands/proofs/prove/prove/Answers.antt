use Rattle.std.proofs.Common.{[], ◌∷◌}
use Rattle.std.proofs.lemmas.Result.{IfOk-weaker}
use Rattle.command_line.specs.Evidences.{evidence_of}
use Rattle.commands.proofs.Composing.{stage-first, stage-reading}
use Rattle.commands.proofs.Progressing.{on-err, on-err-too, progress-lost, progress-told}
use Rattle.commands.proofs.prove.prove.Goals as goal
use Rattle.commands.specs.Provings.{FoundReading}
use Rattle.commands.specs.Waves.{SubjectStage}

pub returns-in-Err-clause-stage : goal.returns-in-Err-clause-stage
returns-in-Err-clause-stage g c =
    stage-first (c.args.request.unit.now ∷ c.args.request.netlist.now ∷ []) [] (SubjectStage c.args.request.unit.now c.args.request.netlist.now)
    (λ subject files. FoundReading c.args.request.unit.now c.args.request.netlist.now c.args.request.limits (evidence_of c.args.request.evidence) subject)
    (g.F.Shelf.state c.args.files.now) (g.F.Shelf.state c.load_subject.new.files) _ c.in-Err.ensures.stage

pub returns-in-Ok-clause-stage : goal.returns-in-Ok-clause-stage
returns-in-Ok-clause-stage g c =
    IfOk-weaker c.prove_subject.result _ _ (λ found reading.
    stage-reading (c.args.request.unit.now ∷ c.args.request.netlist.now ∷ []) (SubjectStage c.args.request.unit.now c.args.request.netlist.now)
    (FoundReading c.args.request.unit.now c.args.request.netlist.now c.args.request.limits (evidence_of c.args.request.evidence))
    (g.F.Shelf.state c.args.files.now) (g.F.Shelf.state c.load_subject.new.files) c.in-Ok.subject found c.in-Ok.ensures.stage reading)
    c.prove_subject.ensures.reading

pub returns-in-Ok-clause-told : goal.returns-in-Ok-clause-told
returns-in-Ok-clause-told g c =
    IfOk-weaker c.prove_subject.result _ _ (λ _ told.
    progress-told c.args.request.unit.now c.args.request.netlist.now c.args.request.limits (g.F.Shelf.state c.args.files.now) c.in-Ok.subject
    c.in-Ok.ensures.stage.gives (g.E.Sink.state c.args.err.now) (g.E.Sink.state c.prove_subject.new.err) told)
    c.prove_subject.ensures.told

pub returns-in-Ok-clause-lost : goal.returns-in-Ok-clause-lost
returns-in-Ok-clause-lost g c =
    on-err c.prove_subject.result
    (progress-lost c.args.request.unit.now c.args.request.netlist.now c.args.request.limits (g.F.Shelf.state c.args.files.now) c.in-Ok.subject
    c.in-Ok.ensures.stage.gives (g.E.Sink.state c.args.err.now) (g.E.Sink.state c.prove_subject.new.err))
    c.prove_subject.ensures.lost

pub returns-in-Ok-clause-kept : goal.returns-in-Ok-clause-kept
returns-in-Ok-clause-kept g c = on-err-too c.prove_subject.result c.in-Ok.ensures.stage.kept
