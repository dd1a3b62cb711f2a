use Rattle.std.proofs.lemmas.Result.{err_from_is_err_and}
use Rattle.commands.proofs.Answering.{show-answers, show-refuses}
use Rattle.commands.proofs.top.show_outcome.Goals as goal

pub returns-in_err-lines-clause-answer : goal.returns-in_err-lines-clause-answer
returns-in_err-lines-clause-answer g c words is =
    let p = err_from_is_err_and c.from_residual.result c.from_residual.ensures.1 in
    rw (p.1, p.2) (show-refuses words c.args.unit.now c.args.names.now (g.F.Shelf.state c.args.files.now)
    (g.F.Shelf.state c.show.new.files) _ is c.in_err-lines.ensures)

pub returns-clause-answer : goal.returns-clause-answer
returns-clause-answer g c words is =
    show-answers words c.args.unit.now c.args.names.now (g.F.Shelf.state c.args.files.now) (g.F.Shelf.state c.show.new.files)
    _ is c.in_ok-lines.ensures
