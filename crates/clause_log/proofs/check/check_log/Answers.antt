use Rattle.std.proofs.Common.{◌≤◌, true, false, arith}
use Rattle.clauses.specs.Logs.{log_words}
use Rattle.clauses.specs.Entries.{entry_of}
use Rattle.clause_log.specs.Checked.{GoesOn}
use Rattle.clause_log.proofs.Running.{goes_step, fails_step, room, answer_at, no_model_at}
use Rattle.clause_log.proofs.check.check_log.Goals as goal

pub overflow_add-lemma : goal.overflow_add-lemma
overflow_add-lemma c =
    let cnf = c.args.cnf.now in
    let progress = rw c.in-Some.ensures.next at c.loop-entry.invariant.progress in
    let few : log_words c.args.log.now ≤ 1000000000 = omega (arith, c.words-few.ensures.is, c.words-few.ensures.few) in
    let fits = room cnf.variables cnf.clauses c.args.log.now c.next.new.self c.loop-entry.checker.lemmas c.loop-entry.lemma c.loop-entry.ended (entry_of c.in-Some.entry) progress few in
    omega (arith, fits.0, c.lemmas_in.ensures)

pub goes_on-requires-clause-lemmas : goal.goes_on-requires-clause-lemmas
goes_on-requires-clause-lemmas c =
    let cnf = c.args.cnf.now in
    let progress = rw c.in-Some.ensures.next at c.loop-entry.invariant.progress in
    let few : log_words c.args.log.now ≤ 1000000000 = omega (arith, c.words-few.ensures.is, c.words-few.ensures.few) in
    (room cnf.variables cnf.clauses c.args.log.now c.next.new.self c.loop-entry.checker.lemmas c.loop-entry.lemma c.loop-entry.ended (entry_of c.in-Some.entry) progress few).2

pub returns-then-not-branch-clause-answer : goal.returns-then-not-branch-clause-answer
returns-then-not-branch-clause-answer c =
    let cnf = c.args.cnf.now in
    let entry = entry_of c.in-Some.entry in
    let progress = rw c.in-Some.ensures.next at c.loop-entry.invariant.progress in
    let fails : GoesOn c.loop-entry.ended c.loop-entry.checker entry false c.goes_on.new.checker = rw c.if-not-branch.true at c.in_ok-goes_on.ensures in
    rw c.lemmas_in.ensures
    (fails_step cnf.variables cnf.clauses c.args.log.now c.next.new.self c.loop-entry.checker c.goes_on.new.checker c.loop-entry.lemma c.loop-entry.ended entry c.loop-entry.invariant.state progress fails)

pub loop-entry-preserved : goal.loop-entry-preserved
loop-entry-preserved c =
    let cnf = c.args.cnf.now in
    let entry = entry_of c.in-Some.entry in
    let progress = rw c.in-Some.ensures.next at c.loop-entry.invariant.progress in
    let goes : GoesOn c.loop-entry.ended c.loop-entry.checker entry true c.goes_on.new.checker = rw c.if-not-branch.false at c.in_ok-goes_on.ensures in
    let next = goes_step cnf.variables cnf.clauses c.args.log.now c.next.new.self c.loop-entry.checker c.goes_on.new.checker c.loop-entry.lemma c.loop-entry.ended entry c.loop-entry.invariant.state progress goes in
    record { state = next.0; progress = rw (c.lemmas_in.ensures, c.ends-ended.ensures) next.1 }

pub returns-clause-answer : goal.returns-clause-answer
returns-clause-answer c =
    let cnf = c.args.cnf.now in
    answer_at cnf c.args.log.now c.loop-entry.entries c.loop-entry.checker.lemmas c.loop-entry.lemma c.loop-entry.ended c.last_answer.result c.in_default.ensures.next.0 c.loop-entry.invariant.progress c.last_answer.ensures

pub returns-clause-no_model : goal.returns-clause-no_model
returns-clause-no_model c = λ is.
    let cnf = c.args.cnf.now in
    no_model_at cnf c.args.log.now c.loop-entry.entries c.loop-entry.checker.lemmas c.loop-entry.lemma c.loop-entry.ended c.last_answer.result c.in_default.ensures.next.0 c.loop-entry.invariant.progress c.last_answer.ensures cc
