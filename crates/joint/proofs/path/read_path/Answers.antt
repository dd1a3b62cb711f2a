use Rattle.std.proofs.Common.{◌-◌, ◌∙◌, sym, ap, arith}
use Rattle.run_terms.specs.Formulas.{values_of}
use Rattle.joint_theory.specs.Bits.{joint_width}
use Rattle.joint_theory.specs.Queries.{path_in, path_of}
use Rattle.joint_theory.proofs.QueryWithin.{width-fits}
use Rattle.joint.specs.Slices.{count_in}
use Rattle.joint.proofs.Paths.{path-counted, path-open, same-path, states-fit, window-fits}
use Rattle.joint.proofs.path.read_path.Goals as goal

pub count-count-requires-clause-wide : goal.count-count-requires-clause-wide
count-count-requires-clause-wide c =
    let design = c.args.product.netlist.now in
    let automaton = c.args.product.violation.now in
    omega (arith, c.requires.size, width-fits design automaton c.args.product.visits c.soundness_law.ensures.sound c.requires.sound c.requires.tests)

pub count-count-requires-clause-fits : goal.count-count-requires-clause-fits
count-count-requires-clause-fits c =
    let design = c.args.product.netlist.now in
    let automaton = c.args.product.violation.now in
    rw c.as_slice-values.ensures (window-fits design automaton c.args.product.visits c.args.size c.args.window c.args.initial c.args.model.now c.requires.size c.requires.values)

pub read_states-requires-clause-wide : goal.read_states-requires-clause-wide
read_states-requires-clause-wide c =
    let design = c.args.product.netlist.now in
    let automaton = c.args.product.violation.now in
    omega (arith, c.requires.size, width-fits design automaton c.args.product.visits c.soundness_law.ensures.sound c.requires.sound c.requires.tests)

pub read_states-requires-clause-fits : goal.read_states-requires-clause-fits
read_states-requires-clause-fits c =
    let design = c.args.product.netlist.now in
    let automaton = c.args.product.violation.now in
    let values = c.args.model.now in
    let is_open = c.query_law.ensures.paths design automaton c.args.product.visits c.args.window c.args.initial (values_of values) c.soundness_law.ensures.sound c.requires.sound c.requires.tests c.requires.model in
    rw (c.count-count.ensures, c.as_slice-values.ensures)
    (states-fit design automaton c.args.product.visits c.args.size c.args.window c.args.initial values c.requires.size c.requires.values is_open)

pub returns-clause-is : goal.returns-clause-is
returns-clause-is c =
    let design = c.args.product.netlist.now in
    let automaton = c.args.product.violation.now in
    let visits = c.args.product.visits in
    let size = c.args.size in
    let window = c.args.window in
    let initial = c.args.initial in
    let values = c.args.model.now in
    let seen = c.as_slice-values.result.now in
    let place = joint_width design automaton visits - 1 in
    let counted = ap (λ n. path_in design automaton visits n (values_of seen)) c.count-count.ensures in
    let same_values = ap (λ v. path_in design automaton visits (count_in v size place window initial) (values_of v)) c.as_slice-values.ensures in
    same-path c.read_states.result (path_in design automaton visits c.count-count.result (values_of seen)) (path_of design automaton visits window initial (values_of values))
    (counted ∙ same_values ∙ sym (path-counted design automaton visits size window initial values c.requires.size)) c.read_states.ensures

pub returns-clause-open : goal.returns-clause-open
returns-clause-open c =
    let design = c.args.product.netlist.now in
    let automaton = c.args.product.violation.now in
    let visits = c.args.product.visits in
    let values = c.args.model.now in
    let is_open = c.query_law.ensures.paths design automaton visits c.args.window c.args.initial (values_of values) c.soundness_law.ensures.sound c.requires.sound c.requires.tests c.requires.model in
    path-open design automaton visits c.args.window c.args.initial c.read_states.result (path_of design automaton visits c.args.window c.args.initial (values_of values)) is_open
    (returns-clause-is c)
