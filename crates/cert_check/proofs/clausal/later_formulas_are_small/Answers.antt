use Rattle.cert_check.specs.Claims.{bad_query, step_query}
use Rattle.cert_check.proofs.Sizes.{bad_fault, bad_of, small_of, step_fault, step_of}
use Rattle.cert_check.proofs.clausal.later_formulas_are_small.Goals as goal

pub returns-in-Err-clause-fault : goal.returns-in-Err-clause-fault
returns-in-Err-clause-fault c =
    rw c.of_formula.ensures (step_fault c.args.joint.now c.args.clauses.now c.in-Err.fault c.in-Err.ensures.large)

pub returns-in-Err-query_bad-clause-fault : goal.returns-in-Err-query_bad-clause-fault
returns-in-Err-query_bad-clause-fault c =
    rw c.of_formula-in-Err-query_bad.ensures (bad_fault c.args.joint.now c.args.clauses.now c.in-Err-query_bad.fault c.in-Err-query_bad.ensures.large)

pub returns-clause-step : goal.returns-clause-step
returns-clause-step c =
    small_of (step_query c.args.joint.now.design c.args.joint.now.automaton c.args.joint.now.visits c.args.clauses.now) c.in-Ok.step
    (step_of c.args.joint.now c.args.clauses.now c.in-Ok.step c.in-Ok.ensures.variables c.in-Ok.ensures.clauses) c.formula_is_small.ensures

pub returns-clause-bad : goal.returns-clause-bad
returns-clause-bad c =
    small_of (bad_query c.args.joint.now.design c.args.joint.now.automaton c.args.joint.now.visits c.args.clauses.now) c.in-Ok-query_bad.bad
    (bad_of c.args.joint.now c.args.clauses.now c.in-Ok-query_bad.bad c.in-Ok-query_bad.ensures.variables c.in-Ok-query_bad.ensures.clauses) c.formula_is_small-2.ensures
