use Rattle.std.proofs.Common.{sym, subst}
use Rattle.std.specs.Result.{IfErr, IfOk, OnOk}
use Rattle.cert_theory.specs.declared.header.Form.{Form}
use Rattle.cert_theory.specs.Phases.{behind_form}
use Rattle.cert_check.specs.Claims.{AnswersAt}
use Rattle.cert_check.specs.Limits.{IsFormulaFault, IsLargeFrom, IsSmallFrom}
use Rattle.cert_check.proofs.lines.check_lines.Goals as goal

pub returns-in-Windowed-clause-answer : goal.returns-in-Windowed-clause-answer
returns-in-Windowed-clause-answer c =
    subst (λ (form : Form). IfOk c.check_windowed.result (AnswersAt c.args.netlist.now c.args.violation.now (behind_form form c.args.header) c.args.reading.now))
    (sym c.in-Windowed.is) c.check_windowed.ensures.answer

pub returns-in-Windowed-clause-fits : goal.returns-in-Windowed-clause-fits
returns-in-Windowed-clause-fits c =
    subst (λ (form : Form). OnOk c.check_windowed.result (IsSmallFrom form c.args.netlist.now c.args.violation.now c.args.header c.args.reading.now))
    (sym c.in-Windowed.is) c.check_windowed.ensures.fits

pub returns-in-Windowed-clause-fault : goal.returns-in-Windowed-clause-fault
returns-in-Windowed-clause-fault c =
    subst (λ (form : Form). IfErr c.check_windowed.result (IsFormulaFault (IsLargeFrom form c.args.netlist.now c.args.violation.now c.args.header c.args.reading.now)))
    (sym c.in-Windowed.is) c.check_windowed.ensures.fault

pub returns-in-Clausal-clause-answer : goal.returns-in-Clausal-clause-answer
returns-in-Clausal-clause-answer c =
    subst (λ (form : Form). IfOk c.check_clausal.result (AnswersAt c.args.netlist.now c.args.violation.now (behind_form form c.args.header) c.args.reading.now))
    (sym c.in-Clausal.is) c.check_clausal.ensures.answer

pub returns-in-Clausal-clause-fits : goal.returns-in-Clausal-clause-fits
returns-in-Clausal-clause-fits c =
    subst (λ (form : Form). OnOk c.check_clausal.result (IsSmallFrom form c.args.netlist.now c.args.violation.now c.args.header c.args.reading.now))
    (sym c.in-Clausal.is) c.check_clausal.ensures.fits

pub returns-in-Clausal-clause-fault : goal.returns-in-Clausal-clause-fault
returns-in-Clausal-clause-fault c =
    subst (λ (form : Form). IfErr c.check_clausal.result (IsFormulaFault (IsLargeFrom form c.args.netlist.now c.args.violation.now c.args.header c.args.reading.now)))
    (sym c.in-Clausal.is) c.check_clausal.ensures.fault
