use Rattle.std.proofs.lemmas.Result.{err_from_is_err_and}
use Rattle.commands.proofs.Checking.{asks-first, asks-then}
use Rattle.commands.proofs.check.check.Goals as goal

pub returns-in_err-subject : goal.returns-in_err-subject
returns-in_err-subject g c =
    let p = err_from_is_err_and c.from_residual.result c.from_residual.ensures.1 in
    rw (p.1, p.2) (asks-first c.args.question.unit.now c.args.question.netlist.now c.args.question.number c.args.question.certificate.now
    (g.F.Shelf.state c.args.files.now) (g.F.Shelf.state c.load_subject.new.files) _ c.in_err-subject.ensures.stage)

pub returns : goal.returns
returns g c =
    asks-then c.args.question.unit.now c.args.question.netlist.now c.args.question.number c.args.question.certificate.now
    (g.F.Shelf.state c.args.files.now) (g.F.Shelf.state c.load_subject.new.files) (g.F.Shelf.state c.check_file.new.files)
    c.in_ok-subject.subject c.check_file.result c.in_ok-subject.ensures.stage c.check_file.ensures
