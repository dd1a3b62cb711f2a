use Rattle.std.proofs.Common.{◌+◌, ◌∙◌, ◌++◌, [], ◌∷◌, ap, sym, arith}
use Rattle.std.proofs.lemmas.Result.{err_from_is_err_and}
use Rattle.joint_theory.specs.Bits.{bad_bit}
use Rattle.joint_theory.specs.Reaching.{bad_variables, one_size, one_state, query_bad}
use Rattle.run_terms.specs.Formulas.{whole}
use Rattle.joint.proofs.Additions.{large-front, large-last, Clauses}
use Rattle.joint.proofs.ReachParts.{bad-is}
use Rattle.joint.proofs.reach_queries.bad_of.Goals as goal

pub returns-in_err-cnf-clause-large : goal.returns-in_err-cnf-clause-large
returns-in_err-cnf-clause-large c =
    let design = c.args.product.netlist.now in
    let automaton = c.args.product.violation.now in
    let visits = c.args.product.visits in
    let clauses = c.args.clauses.now in
    let more = clauses ++ (bad_bit design automaton visits ∷ []) ∷ [] in
    let p = err_from_is_err_and c.from_residual.result c.from_residual.ensures.1 in
    rw (p.1, p.2) (λ too. large-front (bad_variables design automaton visits) (one_size design automaton visits + 0) (query_bad design automaton visits clauses) (whole (one_state design automaton visits) 0) more
    (omega arith) (bad-is design automaton visits clauses) (c.in_err-cnf.ensures.large too))

pub returns-in_err-add_bad-clause-large : goal.returns-in_err-add_bad-clause-large
returns-in_err-add_bad-clause-large c =
    let design = c.args.product.netlist.now in
    let automaton = c.args.product.violation.now in
    let visits = c.args.product.visits in
    let clauses = c.args.clauses.now in
    let more = clauses ++ (bad_bit design automaton visits ∷ []) ∷ [] in
    let p = err_from_is_err_and c.from_residual-in_err-add_bad.result c.from_residual-in_err-add_bad.ensures.1 in
    rw (p.1, p.2) (λ too. large-last (bad_variables design automaton visits) (query_bad design automaton visits clauses) c.in_ok-cnf.cnf.clauses (whole (one_state design automaton visits) 0) more
    (bad-is design automaton visits clauses) c.in_ok-cnf.ensures.clauses (c.in_err-add_bad.ensures.large too))

pub returns-clause-clauses : goal.returns-clause-clauses
returns-clause-clauses c =
    let design = c.args.product.netlist.now in
    let automaton = c.args.product.violation.now in
    let visits = c.args.product.visits in
    let clauses = c.args.clauses.now in
    let more = clauses ++ (bad_bit design automaton visits ∷ []) ∷ [] in
    c.in_ok-add_bad.ensures.ok ∙ ap (λ (front : Clauses). front ++ more) c.in_ok-cnf.ensures.clauses ∙ sym (bad-is design automaton visits clauses)
