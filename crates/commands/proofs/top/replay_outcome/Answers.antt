use Rattle.std.proofs.lemmas.Result.{err_from_is_err_and}
use Rattle.commands.proofs.Answering.{replay-answers, replay-refuses}
use Rattle.commands.proofs.top.replay_outcome.Goals as goal

pub returns-in_err-found-clause-answer : goal.returns-in_err-found-clause-answer
returns-in_err-found-clause-answer g c words is =
    let p = err_from_is_err_and c.from_residual.result c.from_residual.ensures.1 in
    rw (p.1, p.2) (replay-refuses words c.args.unit.now c.args.netlist.now c.args.recording.now
    (g.F.Shelf.state c.args.files.now) (g.F.Shelf.state c.replay_files.new.files) _ is c.in_err-found.ensures)

pub returns-clause-answer : goal.returns-clause-answer
returns-clause-answer g c words is =
    replay-answers words c.args.unit.now c.args.netlist.now c.args.recording.now
    (g.F.Shelf.state c.args.files.now) (g.F.Shelf.state c.replay_files.new.files) c.in_ok-found.found is c.in_ok-found.ensures
