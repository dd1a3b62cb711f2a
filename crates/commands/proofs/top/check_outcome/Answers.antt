use Rattle.std.proofs.lemmas.Result.{err_from_is_err_and}
use Rattle.commands.proofs.Answering.{check-answers, check-refuses}
use Rattle.commands.proofs.top.check_outcome.Goals as goal

pub returns-in_err-checked-clause-answer : goal.returns-in_err-checked-clause-answer
returns-in_err-checked-clause-answer g c words is =
    let p = err_from_is_err_and c.from_residual.result c.from_residual.ensures.1 in
    rw (p.1, p.2) (check-refuses words c.args.unit.now c.args.netlist.now c.args.number c.args.certificate.now
    (g.F.Shelf.state c.args.files.now) (g.F.Shelf.state c.check.new.files) _ is c.in_err-checked.ensures)

pub returns-clause-answer : goal.returns-clause-answer
returns-clause-answer g c words is =
    check-answers words c.args.unit.now c.args.netlist.now c.args.number c.args.certificate.now
    (g.F.Shelf.state c.args.files.now) (g.F.Shelf.state c.check.new.files) _ is c.in_ok-checked.ensures
