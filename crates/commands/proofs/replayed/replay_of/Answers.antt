use Rattle.std.proofs.lemmas.Result.{err_from_is_err_and}
use Rattle.commands.proofs.Replaying.{all-replayed, no-directives, no-replay, no-verdicts}
use Rattle.commands.proofs.replayed.replay_of.Goals as goal

pub returns-in_err-directives : goal.returns-in_err-directives
returns-in_err-directives c =
    let p = err_from_is_err_and c.from_residual.result c.from_residual.ensures.1 in
    rw (p.1, p.2) (no-directives c.args.unit.now c.args.name.now c.args.circuit.now c.args.sampled.now _ (rw c.names.ensures.names at c.in_err-directives.ensures.reading))

pub returns-in_err-answer : goal.returns-in_err-answer
returns-in_err-answer c =
    let p = err_from_is_err_and c.from_residual-in_err-answer.result c.from_residual-in_err-answer.ensures.1 in
    rw (p.1, p.2) (no-replay c.args.unit.now c.args.name.now c.args.circuit.now c.args.sampled.now c.in_ok-directives.directives
    (rw c.names.ensures.names at c.in_ok-directives.ensures.reading) _ c.in_err-answer.ensures)

pub returns-in_err-verdicts : goal.returns-in_err-verdicts
returns-in_err-verdicts c =
    let p = err_from_is_err_and c.from_residual-in_err-verdicts.result c.from_residual-in_err-verdicts.ensures.1 in
    rw (p.1, p.2) (no-verdicts c.args.unit.now c.args.name.now c.args.circuit.now c.args.sampled.now c.in_ok-directives.directives
    (rw c.names.ensures.names at c.in_ok-directives.ensures.reading) c.in_ok-answer.answer c.in_ok-answer.ensures _ c.in_err-verdicts.ensures)

pub returns : goal.returns
returns c =
    rw c.with_samples.ensures (all-replayed c.args.unit.now c.args.name.now c.args.circuit.now c.args.sampled.now c.in_ok-directives.directives
    (rw c.names.ensures.names at c.in_ok-directives.ensures.reading) c.in_ok-answer.answer c.in_ok-answer.ensures c.in_ok-verdicts.verdicts c.in_ok-verdicts.ensures)
