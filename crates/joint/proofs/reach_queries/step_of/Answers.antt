use Rattle.std.proofs.Common.{refl, ◌+◌, ◌∙◌, ◌++◌, ◌-◌, ap, sym, length, arith}
use Rattle.std.proofs.lemmas.Result.{err_from_is_err_and}
use Rattle.joint_selectors.specs.Missed.{some_missed}
use Rattle.joint_theory.specs.Reaching.{query_step, step_variables, two_size, two_states}
use Rattle.run_terms.specs.Formulas.{whole}
use Rattle.joint.proofs.Additions.{large-front, large-last, Clauses}
use Rattle.joint.proofs.ReachParts.{step-is}
use Rattle.joint.proofs.reach_queries.step_of.Goals as goal

pub returns-in_err-cnf-clause-large : goal.returns-in_err-cnf-clause-large
returns-in_err-cnf-clause-large c =
    let design = c.args.product.netlist.now in
    let automaton = c.args.product.violation.now in
    let visits = c.args.product.visits in
    let clauses = c.args.clauses.now in
    let variables = step_variables design automaton visits clauses in
    let more = clauses ++ some_missed c.args.product.width (variables - length clauses) clauses in
    let size = c.len.ensures in
    let p = err_from_is_err_and c.from_residual.result c.from_residual.ensures.1 in
    rw (p.1, p.2) (λ too. large-front variables (two_size design automaton visits + c.len.result) (query_step design automaton visits clauses) (whole (two_states design automaton visits) 0) more
    (omega (arith, size)) (step-is design automaton visits clauses variables c.args.product.width refl c.args.product.width_is) (c.in_err-cnf.ensures.large too))

pub returns-in_err-add_leaving-clause-large : goal.returns-in_err-add_leaving-clause-large
returns-in_err-add_leaving-clause-large c =
    let design = c.args.product.netlist.now in
    let automaton = c.args.product.violation.now in
    let visits = c.args.product.visits in
    let clauses = c.args.clauses.now in
    let variables = c.in_ok-cnf.cnf.variables in
    let more = clauses ++ some_missed c.args.product.width (variables - length clauses) clauses in
    let p = err_from_is_err_and c.from_residual-in_err-add_leaving.result c.from_residual-in_err-add_leaving.ensures.1 in
    rw (p.1, p.2) (λ too. large-last (step_variables design automaton visits clauses) (query_step design automaton visits clauses) c.in_ok-cnf.cnf.clauses (whole (two_states design automaton visits) 0) more
    (step-is design automaton visits clauses variables c.args.product.width (rw c.len.ensures at c.in_ok-cnf.ensures.variables) c.args.product.width_is) c.in_ok-cnf.ensures.clauses (c.in_err-add_leaving.ensures.large too))

pub returns-clause-clauses : goal.returns-clause-clauses
returns-clause-clauses c =
    let design = c.args.product.netlist.now in
    let automaton = c.args.product.violation.now in
    let visits = c.args.product.visits in
    let clauses = c.args.clauses.now in
    let variables = c.in_ok-cnf.cnf.variables in
    let more = clauses ++ some_missed c.args.product.width (variables - length clauses) clauses in
    c.in_ok-add_leaving.ensures.ok ∙ ap (λ (front : Clauses). front ++ more) c.in_ok-cnf.ensures.clauses
    ∙ sym (step-is design automaton visits clauses variables c.args.product.width (rw c.len.ensures at c.in_ok-cnf.ensures.variables) c.args.product.width_is)
