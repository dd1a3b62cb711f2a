use Rattle.std.proofs.Common.{subst, ℕ}
use Rattle.std.proofs.lemmas.Result.{IfOk-weaker}
use Rattle.sat_command.specs.Answering.{IsAnswerFor, IsSolved}
use Rattle.sat_command.specs.Requests.{asked_by}
use Rattle.sat_command.proofs.Reading.{solved-text}
use Rattle.sat_command.proofs.solving.solved.Goals as goal

pub returns-clause-ok : goal.returns-clause-ok
returns-clause-ok g c =
    IfOk-weaker c.answer.result (IsAnswerFor c.in_ok-text.text c.steps_of.result) (IsSolved (asked_by c.args.request.now) (g.F.Shelf.state c.args.files.now))
    (λ answer found. solved-text (g.F.Shelf.state c.args.files.now) c.in_ok-text.text (asked_by c.args.request.now) answer c.in_ok-text.ensures.whole
    c.in_ok-text.ensures.within (subst (λ (steps : ℕ). IsAnswerFor c.in_ok-text.text steps answer) c.steps_of.ensures found)) c.answer.ensures.ok
