use Rattle.std.proofs.lemmas.Result.{err_from_is_err_and}
use Rattle.commands.proofs.Answering.{netlist-answers, netlist-refuses}
use Rattle.commands.proofs.top.netlist_outcome.Goals as goal

pub returns-in_err-lines-clause-answer : goal.returns-in_err-lines-clause-answer
returns-in_err-lines-clause-answer g c words is =
    let p = err_from_is_err_and c.from_residual.result c.from_residual.ensures.1 in
    rw (p.1, p.2) (netlist-refuses words c.args.unit.now c.args.netlist.now (g.F.Shelf.state c.args.files.now)
    (g.F.Shelf.state c.show_netlist.new.files) _ is c.in_err-lines.ensures)

pub returns-clause-answer : goal.returns-clause-answer
returns-clause-answer g c words is =
    netlist-answers words c.args.unit.now c.args.netlist.now (g.F.Shelf.state c.args.files.now) (g.F.Shelf.state c.show_netlist.new.files)
    _ is c.in_ok-lines.ensures
