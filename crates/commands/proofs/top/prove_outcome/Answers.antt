use Rattle.command_line.specs.Evidences.{evidence_of}
use Rattle.commands.proofs.Answering.{proof-answers, proof-refuses}
use Rattle.commands.proofs.Progressing.{on-err-too, words-lose, words-progress}
use Rattle.commands.proofs.top.prove_outcome.Goals as goal

pub returns-in-Ok-clause-answer : goal.returns-in-Ok-clause-answer
returns-in-Ok-clause-answer g c words is =
    proof-answers words c.args.request.unit.now c.args.request.netlist.now c.args.request.limits (evidence_of c.args.request.evidence)
    (g.F.Shelf.state c.args.files.now) (g.F.Shelf.state c.prove.new.files) c.in-Ok.found is (rw c.in-Ok.is at c.in_ok-found.ensures.stage)

pub returns-in-Err-clause-answer : goal.returns-in-Err-clause-answer
returns-in-Err-clause-answer g c words is =
    proof-refuses words c.args.request.unit.now c.args.request.netlist.now c.args.request.limits (evidence_of c.args.request.evidence)
    (g.F.Shelf.state c.args.files.now) (g.F.Shelf.state c.prove.new.files) c.in-Err.fault is (rw c.in-Err.is at c.in_ok-found.ensures.stage)

pub returns-in-Ok-clause-told : goal.returns-in-Ok-clause-told
returns-in-Ok-clause-told g c words is =
    words-progress words c.args.request.unit.now c.args.request.netlist.now c.args.request.limits (evidence_of c.args.request.evidence) is
    (g.F.Shelf.state c.args.files.now) (g.E.Sink.state c.args.err.now) (g.E.Sink.state c.prove.new.err) c.in_ok-found.ensures.told

pub returns-in-Err-clause-told : goal.returns-in-Err-clause-told
returns-in-Err-clause-told g c words is =
    words-progress words c.args.request.unit.now c.args.request.netlist.now c.args.request.limits (evidence_of c.args.request.evidence) is
    (g.F.Shelf.state c.args.files.now) (g.E.Sink.state c.args.err.now) (g.E.Sink.state c.prove.new.err) c.in_ok-found.ensures.told

pub returns-in_err-found-clause-lost : goal.returns-in_err-found-clause-lost
returns-in_err-found-clause-lost g c words is =
    on-err-too c.from_residual.result
    (words-lose words c.args.request.unit.now c.args.request.netlist.now c.args.request.limits (evidence_of c.args.request.evidence) is
    (g.F.Shelf.state c.args.files.now) (g.E.Sink.state c.args.err.now) (g.E.Sink.state c.prove.new.err) c.in_err-found.ensures.lost)
