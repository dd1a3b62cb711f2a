use Rattle.std.proofs.lemmas.Result.{err_from_is_err_and}
use Rattle.commands.proofs.Answering.{wave-answers, wave-refuses}
use Rattle.commands.proofs.top.wave_outcome.Goals as goal

pub returns-in_err-judged-clause-answer : goal.returns-in_err-judged-clause-answer
returns-in_err-judged-clause-answer g c words is =
    let p = err_from_is_err_and c.from_residual.result c.from_residual.ensures.1 in
    rw (p.1, p.2) (wave-refuses words c.args.unit.now c.args.recording.now c.args.unknown c.args.points
    (g.F.Shelf.state c.args.files.now) (g.F.Shelf.state c.wave.new.files) _ is (rw c.unknown_of.ensures at c.in_err-judged.ensures.stage))

pub returns-clause-answer : goal.returns-clause-answer
returns-clause-answer g c words is =
    wave-answers words c.args.unit.now c.args.recording.now c.args.unknown c.args.points
    (g.F.Shelf.state c.args.files.now) (g.F.Shelf.state c.wave.new.files) c.in_ok-judged.judged c.in_ok-judged.ensures.asked is
    (rw c.unknown_of.ensures at c.in_ok-judged.ensures.stage)
