use Rattle.std.proofs.Common.{refl, ◌+◌, ◌∙◌, ◌++◌, [], ◌∷◌, map, neg_ℤ, ap, sym, append_assoc, arith}
use Rattle.std.proofs.lemmas.Result.{err_from_is_err_and}
use Rattle.gates_theory.specs.Unrolled.{units}
use Rattle.joint_theory.specs.Reaching.{query_relative, relative_variables, start_units, two_size, two_states}
use Rattle.run_terms.specs.Formulas.{whole}
use Rattle.joint.proofs.Additions.{large-front, large-last, Clauses}
use Rattle.joint.proofs.ReachParts.{relative-is}
use Rattle.joint.proofs.reach_queries.relative_of.Goals as goal

pub returns-in_err-cnf-clause-large : goal.returns-in_err-cnf-clause-large
returns-in_err-cnf-clause-large c =
    let design = c.args.product.netlist.now in
    let automaton = c.args.product.violation.now in
    let visits = c.args.product.visits in
    let width = c.args.product.width in
    let frame = c.args.frame.now in
    let cube = c.args.cube.now in
    let pair = whole (two_states design automaton visits) 0 in
    let leading = frame ++ (map neg_ℤ cube ∷ []) in
    let entered = units width cube ++ start_units design automaton visits c.args.initial in
    let p = err_from_is_err_and c.from_residual.result c.from_residual.ensures.1 in
    rw (p.1, p.2) (λ too. large-front (relative_variables design automaton visits) (two_size design automaton visits + 0) (query_relative design automaton visits frame c.args.initial cube)
    pair (leading ++ entered) (omega arith)
    (relative-is design automaton visits frame width c.args.initial cube c.args.product.width_is ∙ append_assoc pair leading entered) (c.in_err-cnf.ensures.large too))

pub returns-in_err-add_leading-clause-large : goal.returns-in_err-add_leading-clause-large
returns-in_err-add_leading-clause-large c =
    let design = c.args.product.netlist.now in
    let automaton = c.args.product.violation.now in
    let visits = c.args.product.visits in
    let width = c.args.product.width in
    let frame = c.args.frame.now in
    let cube = c.args.cube.now in
    let pair = whole (two_states design automaton visits) 0 in
    let leading = frame ++ (map neg_ℤ cube ∷ []) in
    let entered = units width cube ++ start_units design automaton visits c.args.initial in
    let variables = relative_variables design automaton visits in
    let p = err_from_is_err_and c.from_residual-in_err-add_leading.result c.from_residual-in_err-add_leading.ensures.1 in
    rw (p.1, p.2) (λ too. large-front variables variables (query_relative design automaton visits frame c.args.initial cube) (pair ++ leading) entered refl
    (relative-is design automaton visits frame width c.args.initial cube c.args.product.width_is)
    (large-last variables (pair ++ leading) c.in_ok-cnf.cnf.clauses pair leading refl c.in_ok-cnf.ensures.clauses (c.in_err-add_leading.ensures.large too)))

pub returns-in_err-add_entered-clause-large : goal.returns-in_err-add_entered-clause-large
returns-in_err-add_entered-clause-large c =
    let design = c.args.product.netlist.now in
    let automaton = c.args.product.violation.now in
    let visits = c.args.product.visits in
    let width = c.args.product.width in
    let frame = c.args.frame.now in
    let cube = c.args.cube.now in
    let pair = whole (two_states design automaton visits) 0 in
    let leading = frame ++ (map neg_ℤ cube ∷ []) in
    let entered = units width cube ++ start_units design automaton visits c.args.initial in
    let front = c.in_ok-add_leading.ensures.ok ∙ ap (λ (whole : Clauses). whole ++ leading) c.in_ok-cnf.ensures.clauses in
    let p = err_from_is_err_and c.from_residual-in_err-add_entered.result c.from_residual-in_err-add_entered.ensures.1 in
    rw (p.1, p.2) (λ too. large-last (relative_variables design automaton visits) (query_relative design automaton visits frame c.args.initial cube)
    c.add_leading.new.cnf.clauses (pair ++ leading) entered
    (relative-is design automaton visits frame width c.args.initial cube c.args.product.width_is) front (c.in_err-add_entered.ensures.large too))

pub returns-clause-clauses : goal.returns-clause-clauses
returns-clause-clauses c =
    let design = c.args.product.netlist.now in
    let automaton = c.args.product.violation.now in
    let visits = c.args.product.visits in
    let width = c.args.product.width in
    let frame = c.args.frame.now in
    let cube = c.args.cube.now in
    let pair = whole (two_states design automaton visits) 0 in
    let leading = frame ++ (map neg_ℤ cube ∷ []) in
    let entered = units width cube ++ start_units design automaton visits c.args.initial in
    let front = c.in_ok-add_leading.ensures.ok ∙ ap (λ (whole : Clauses). whole ++ leading) c.in_ok-cnf.ensures.clauses in
    c.in_ok-add_entered.ensures.ok ∙ ap (λ (front : Clauses). front ++ entered) front
    ∙ sym (relative-is design automaton visits frame width c.args.initial cube c.args.product.width_is)
