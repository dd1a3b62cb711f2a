use Rattle.std.proofs.Common.{refl, ◌+◌, ◌∙◌, ◌++◌, ◌-◌, ap, sym, length, arith}
use Rattle.std.proofs.lemmas.Result.{err_from_is_err_and}
use Rattle.gates_theory.specs.Unrolled.{units}
use Rattle.joint_selectors.specs.Missed.{some_missed}
use Rattle.joint_theory.specs.Queries.{start_literals}
use Rattle.joint_theory.specs.Reaching.{initial_variables, one_size, one_state, query_initial}
use Rattle.run_terms.specs.Formulas.{whole}
use Rattle.joint.proofs.Additions.{large-front, large-last, Clauses}
use Rattle.joint.proofs.ReachParts.{initial-is}
use Rattle.joint.proofs.reach_queries.initial_of.Goals as goal

pub returns-in_err-cnf-clause-large : goal.returns-in_err-cnf-clause-large
returns-in_err-cnf-clause-large c =
    let design = c.args.product.netlist.now in
    let automaton = c.args.product.violation.now in
    let visits = c.args.product.visits in
    let clauses = c.args.clauses.now in
    let variables = initial_variables design automaton visits clauses in
    let more = units 0 (start_literals design automaton visits) ++ some_missed 0 (variables - length clauses) clauses in
    let size = c.len.ensures in
    let p = err_from_is_err_and c.from_residual.result c.from_residual.ensures.1 in
    rw (p.1, p.2) (λ too. large-front variables (one_size design automaton visits + c.len.result) (query_initial design automaton visits clauses) (whole (one_state design automaton visits) 0) more
    (omega (arith, size)) (initial-is design automaton visits clauses variables refl) (c.in_err-cnf.ensures.large too))

pub returns-in_err-add_initial-clause-large : goal.returns-in_err-add_initial-clause-large
returns-in_err-add_initial-clause-large c =
    let design = c.args.product.netlist.now in
    let automaton = c.args.product.violation.now in
    let visits = c.args.product.visits in
    let clauses = c.args.clauses.now in
    let variables = c.in_ok-cnf.cnf.variables in
    let more = units 0 (start_literals design automaton visits) ++ some_missed 0 (variables - length clauses) clauses in
    let p = err_from_is_err_and c.from_residual-in_err-add_initial.result c.from_residual-in_err-add_initial.ensures.1 in
    rw (p.1, p.2) (λ too. large-last (initial_variables design automaton visits clauses) (query_initial design automaton visits clauses) c.in_ok-cnf.cnf.clauses (whole (one_state design automaton visits) 0) more
    (initial-is design automaton visits clauses variables (rw c.len.ensures at c.in_ok-cnf.ensures.variables)) c.in_ok-cnf.ensures.clauses (c.in_err-add_initial.ensures.large too))

pub returns-clause-clauses : goal.returns-clause-clauses
returns-clause-clauses c =
    let design = c.args.product.netlist.now in
    let automaton = c.args.product.violation.now in
    let visits = c.args.product.visits in
    let clauses = c.args.clauses.now in
    let variables = c.in_ok-cnf.cnf.variables in
    let more = units 0 (start_literals design automaton visits) ++ some_missed 0 (variables - length clauses) clauses in
    c.in_ok-add_initial.ensures.ok ∙ ap (λ (front : Clauses). front ++ more) c.in_ok-cnf.ensures.clauses
    ∙ sym (initial-is design automaton visits clauses variables (rw c.len.ensures at c.in_ok-cnf.ensures.variables))
