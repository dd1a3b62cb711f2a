use Rattle.std.proofs.Common.{[]}
use Rattle.cert_check.specs.Claims.{queries_for}
use Rattle.cert_check.proofs.Sizes.{base_query, both_fit, induction_query, of_base, of_induction}
use Rattle.cert_check.proofs.formulas.check_windowed.Goals as goal

pub returns-in-Err-induction-clause-fault : goal.returns-in-Err-induction-clause-fault
returns-in-Err-induction-clause-fault c =
    rw c.of_formula-in-Err-induction.ensures
    (of_induction c.args.netlist.now c.args.violation.now c.args.header c.in-Ok.joint c.in-Ok.ensures.is c.in-Err-induction.fault c.in-Err-induction.ensures.large)

pub returns-in-Err-base-clause-fault : goal.returns-in-Err-base-clause-fault
returns-in-Err-base-clause-fault c =
    rw c.of_formula-in-Err-base.ensures
    (of_base c.args.netlist.now c.args.violation.now c.args.header c.in-Ok.joint c.in-Ok.ensures.is c.in-Err-base.fault c.in-Err-base.ensures.large)

pub returns-in-Some-clause-fits : goal.returns-in-Some-clause-fits
returns-in-Some-clause-fits c =
    both_fit c.args.netlist.now c.args.violation.now c.args.header c.in-Ok.joint c.in-Ok.ensures.is c.in-Ok-base.base c.in-Ok-induction.early
    (record { variables = c.in-Ok-base.ensures.variables; clauses = c.in-Ok-base.ensures.clauses }) c.formula_is_small-2.ensures
    (record { variables = c.in-Ok-induction.ensures.variables; clauses = c.in-Ok-induction.ensures.clauses }) c.formula_is_small.ensures

pub returns-in-Some-2-clause-fits : goal.returns-in-Some-2-clause-fits
returns-in-Some-2-clause-fits c =
    both_fit c.args.netlist.now c.args.violation.now c.args.header c.in-Ok.joint c.in-Ok.ensures.is c.in-Ok-base.base c.in-Ok-induction.early
    (record { variables = c.in-Ok-base.ensures.variables; clauses = c.in-Ok-base.ensures.clauses }) c.formula_is_small-2.ensures
    (record { variables = c.in-Ok-induction.ensures.variables; clauses = c.in-Ok-induction.ensures.clauses }) c.formula_is_small.ensures

pub returns-clause-fits : goal.returns-clause-fits
returns-clause-fits c =
    both_fit c.args.netlist.now c.args.violation.now c.args.header c.in-Ok.joint c.in-Ok.ensures.is c.in-Ok-base.base c.in-Ok-induction.early
    (record { variables = c.in-Ok-base.ensures.variables; clauses = c.in-Ok-base.ensures.clauses }) c.formula_is_small-2.ensures
    (record { variables = c.in-Ok-induction.ensures.variables; clauses = c.in-Ok-induction.ensures.clauses }) c.formula_is_small.ensures

pub returns-in-Some-2-clause-answer : goal.returns-in-Some-2-clause-answer
returns-in-Some-2-clause-answer c = λ asked text at.
    let first = base_query c.args.netlist.now c.args.violation.now c.args.header c.in-Ok.joint c.in-Ok.ensures.is c.in-Ok-base.base
    (record { variables = c.in-Ok-base.ensures.variables; clauses = c.in-Ok-base.ensures.clauses }) in
    let second = induction_query c.args.netlist.now c.args.violation.now c.args.header c.in-Ok.joint c.in-Ok.ensures.is c.in-Ok-induction-2.induction
    (record { variables = c.in-Ok-induction-2.ensures.variables; clauses = c.in-Ok-induction-2.ensures.clauses }) in
    let behind = c.in_ok-refusal.ensures.stands c.in_default.is asked (queries_for c.args.netlist.now c.args.violation.now) text [] first at in
    let refused = rw c.in-Some-2.is at c.in_ok-refusal-2.ensures.refused in
    refused asked (queries_for c.args.netlist.now c.args.violation.now) text [] second behind

pub returns-clause-answer : goal.returns-clause-answer
returns-clause-answer c = λ asked text at.
    let first = base_query c.args.netlist.now c.args.violation.now c.args.header c.in-Ok.joint c.in-Ok.ensures.is c.in-Ok-base.base
    (record { variables = c.in-Ok-base.ensures.variables; clauses = c.in-Ok-base.ensures.clauses }) in
    let second = induction_query c.args.netlist.now c.args.violation.now c.args.header c.in-Ok.joint c.in-Ok.ensures.is c.in-Ok-induction-2.induction
    (record { variables = c.in-Ok-induction-2.ensures.variables; clauses = c.in-Ok-induction-2.ensures.clauses }) in
    let behind = c.in_ok-refusal.ensures.stands c.in_default.is asked (queries_for c.args.netlist.now c.args.violation.now) text [] first at in
    c.end.ensures asked (queries_for c.args.netlist.now c.args.violation.now) text (c.in_ok-refusal-2.ensures.stands c.in_default-2.is asked (queries_for c.args.netlist.now c.args.violation.now) text [] second behind)

pub returns-in-Some-clause-answer : goal.returns-in-Some-clause-answer
returns-in-Some-clause-answer c = λ asked text at.
    let first = base_query c.args.netlist.now c.args.violation.now c.args.header c.in-Ok.joint c.in-Ok.ensures.is c.in-Ok-base.base
    (record { variables = c.in-Ok-base.ensures.variables; clauses = c.in-Ok-base.ensures.clauses }) in
    let refused = rw c.in-Some.is at c.in_ok-refusal.ensures.refused in
    refused asked (queries_for c.args.netlist.now c.args.violation.now) text [] first at
