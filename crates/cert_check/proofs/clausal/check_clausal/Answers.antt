use Rattle.std.proofs.Common.{subst, ℕ}
use Rattle.std.specs.Bool.{IsTrue}
use Rattle.std.proofs.lemmas.Result.{err_from_is_err_and}
use Rattle.clauses.specs.Literals.{clauses_within}
use Rattle.cert_lines.specs.Clauses.{AreClauses, HasNoClauses, IsRefusedAmong}
use Rattle.cert_check.proofs.Inducing.{among_answers, clauses_answer, clauses_fault, clauses_few, none_few}
use Rattle.cert_check.proofs.clausal.check_clausal.Goals as goal

pub returns-in-Err-clause-answer : goal.returns-in-Err-clause-answer
returns-in-Err-clause-answer c =
    let refused = rw c.in-Err.is at c.in_ok-clauses.ensures.refused in
    among_answers c.args.netlist.now c.args.violation.now c.args.header c.args.reading.now c.in-Err.refusal
    (subst (λ (bits : ℕ). IsRefusedAmong bits c.args.reading.now c.in-Err.refusal) c.state_width-width.ensures refused)

pub returns-in-Err-clause-fits : goal.returns-in-Err-clause-fits
returns-in-Err-clause-fits c =
    let none = rw c.in-Err.is at c.in_ok-clauses.ensures.none in
    none_few c.args.netlist.now c.args.violation.now c.args.header c.args.reading.now
    (subst (λ (bits : ℕ). HasNoClauses bits c.args.reading.now) c.state_width-width.ensures none)

pub check_clauses-requires-clause-within : goal.check_clauses-requires-clause-within
check_clauses-requires-clause-within c =
    let within = rw c.in-Ok.is at c.in_ok-clauses.ensures.within in
    subst (λ (bits : ℕ). IsTrue (clauses_within bits c.in-Ok.clauses)) c.state_width-width.ensures within

pub returns-in_err-answer-clause-fault : goal.returns-in_err-answer-clause-fault
returns-in_err-answer-clause-fault c =
    let are = rw c.in-Ok.is at c.in_ok-clauses.ensures.clauses in
    let p = err_from_is_err_and c.from_residual-in_err-answer.result c.from_residual-in_err-answer.ensures.1 in
    rw (p.1, p.2) (clauses_fault c.args.netlist.now c.args.violation.now c.args.header c.args.reading.now c.in-Ok.clauses c.read_clauses.new.reading
    (subst (λ (bits : ℕ). AreClauses bits c.args.reading.now c.in-Ok.clauses c.read_clauses.new.reading) c.state_width-width.ensures are)
    c.in_err-answer.field-0.0 c.in_err-answer.ensures.fault)

pub returns-clause-answer : goal.returns-clause-answer
returns-clause-answer c =
    let are = rw c.in-Ok.is at c.in_ok-clauses.ensures.clauses in
    clauses_answer c.args.netlist.now c.args.violation.now c.args.header c.args.reading.now c.in-Ok.clauses c.read_clauses.new.reading
    (subst (λ (bits : ℕ). AreClauses bits c.args.reading.now c.in-Ok.clauses c.read_clauses.new.reading) c.state_width-width.ensures are)
    c.in_ok-answer.answer c.in_ok-answer.ensures.answer

pub returns-clause-fits : goal.returns-clause-fits
returns-clause-fits c =
    let are = rw c.in-Ok.is at c.in_ok-clauses.ensures.clauses in
    clauses_few c.args.netlist.now c.args.violation.now c.args.header c.args.reading.now c.in-Ok.clauses c.read_clauses.new.reading
    (subst (λ (bits : ℕ). AreClauses bits c.args.reading.now c.in-Ok.clauses c.read_clauses.new.reading) c.state_width-width.ensures are)
    c.in_ok-answer.ensures.fits
