use Rattle.cert_check.specs.Claims.{queries_for}
use Rattle.cert_check.proofs.Inducing.{bad_answers, end_answers, initial_answers, step_answers}
use Rattle.cert_check.proofs.clausal.check_logs.Goals as goal

pub returns-in-Some-clause-answer : goal.returns-in-Some-clause-answer
returns-in-Some-clause-answer c =
    let refused = rw c.in-Some.is at c.in_ok-refusal.ensures.refused in
    initial_answers c.args.joint.now c.args.header c.args.clauses.now c.requires.visits c.args.reading.now c.check_initial.new.reading c.in-Some.refusal refused

pub returns-in-Some-2-clause-answer : goal.returns-in-Some-2-clause-answer
returns-in-Some-2-clause-answer c =
    let refused = rw c.in-Some-2.is at c.in_ok-refusal-2.ensures.refused in
    step_answers c.args.joint.now c.args.header c.args.clauses.now c.requires.visits c.args.reading.now c.check_initial.new.reading
    (c.in_ok-refusal.ensures.stands c.in_default.is) c.in-Some-2.refusal refused

pub returns-in-Some-3-clause-answer : goal.returns-in-Some-3-clause-answer
returns-in-Some-3-clause-answer c =
    let refused = rw c.in-Some-3.is at c.in_ok-refusal-3.ensures.refused in
    bad_answers c.args.joint.now c.args.header c.args.clauses.now c.requires.visits c.args.reading.now c.check_initial.new.reading
    (c.in_ok-refusal.ensures.stands c.in_default.is) c.check_step.new.reading (c.in_ok-refusal-2.ensures.stands c.in_default-2.is) c.in-Some-3.refusal refused

pub returns-clause-answer : goal.returns-clause-answer
returns-clause-answer c =
    end_answers c.args.joint.now c.args.header c.args.clauses.now c.requires.visits c.args.reading.now c.check_initial.new.reading
    (c.in_ok-refusal.ensures.stands c.in_default.is) c.check_step.new.reading (c.in_ok-refusal-2.ensures.stands c.in_default-2.is)
    c.check_bad.new.reading c.end.result (c.in_ok-refusal-3.ensures.stands c.in_default-3.is)
    (λ asked text at. c.end.ensures asked (queries_for c.args.joint.now.design c.args.joint.now.automaton) text at)
