use Rattle.std.proofs.Common.{◌≡◌, ◌≤◌, ◌<◌, ◌+◌, ◌-◌, ◌++◌, [], cond, suc, true, false, Err, Ok, length, sym, subst, arith, Bool}
use Rattle.std.proofs.lemmas.Result.{err_from_is_err_and}
use Rattle.gates_nodes.specs.Clauses.{named}
use Rattle.gates_formula.specs.Adding.{Adds}
use Rattle.gates_formula.specs.Marks.{AreMarks}
use Rattle.gates_formula.specs.Places.{clauses_at, node_at, variable_at}
use Rattle.gates_formula.proofs.Additions.{adds-none}
use Rattle.gates_formula.proofs.Marked.{marks-more}
use Rattle.gates_formula.proofs.Reached.{mark-asks, wider_node, within-at}
use Rattle.gates_formula.proofs.asked.add_wanted.Goals as goal

pub mark_named-requires-clause-within : goal.mark_named-requires-clause-within
mark_named-requires-clause-within c =
    let making = c.args.builder.now in
    let n : length c.args.marks.now - 1 ≡ c.args.cnf.now.variables = omega (arith, c.requires.size) in
    let order : suc making.given + c.args.place ≤ c.args.cnf.now.variables = omega (arith, c.requires.variables, c.requires.place) in
    rw (n, c.nodes.ensures.is) (wider_node (suc making.given + c.args.place) c.args.cnf.now.variables (node_at making.nodes c.args.place) order
    (within-at (suc making.given) c.args.place making.nodes c.requires.place c.nodes.ensures.sound))

pub returns-in_err-add_node-clause-clauses : goal.returns-in_err-add_node-clause-clauses
returns-in_err-add_node-clause-clauses c = λ literals are.
    let making = c.args.builder.now in
    let place : c.given.result + 2 + c.args.place ≡ variable_at making c.args.place = omega (arith, c.given.ensures.is) in
    let below : variable_at making c.args.place < length c.args.marks.now = omega (arith, c.requires.size, c.requires.variables, c.requires.place) in
    let asked = mark-asks c.args.marks.now literals (c.given.result + 2 + c.args.place) (variable_at making c.args.place) c.at.result.now true place below c.at.ensures c.if-at.true are in
    let p = err_from_is_err_and c.from_residual.result c.from_residual.ensures.1 in
    rw (p.1, p.2) (subst (λ (t : Bool). Adds {A = Unit {0}} c.args.cnf.now c.add_node.new.cnf (cond t (clauses_at making c.args.place) []) (Err c.in_err-add_node.field-0.0)) (sym asked) c.in_err-add_node.ensures)

pub returns-in_ok-add_node-clause-clauses : goal.returns-in_ok-add_node-clause-clauses
returns-in_ok-add_node-clause-clauses c = λ literals are.
    let making = c.args.builder.now in
    let place : c.given.result + 2 + c.args.place ≡ variable_at making c.args.place = omega (arith, c.given.ensures.is) in
    let below : variable_at making c.args.place < length c.args.marks.now = omega (arith, c.requires.size, c.requires.variables, c.requires.place) in
    let asked = mark-asks c.args.marks.now literals (c.given.result + 2 + c.args.place) (variable_at making c.args.place) c.at.result.now true place below c.at.ensures c.if-at.true are in
    subst (λ (t : Bool). Adds {A = Unit {0}} c.args.cnf.now c.add_node.new.cnf (cond t (clauses_at making c.args.place) []) (Ok tt)) (sym asked) c.in_ok-add_node.ensures

pub returns-in_ok-add_node-clause-marks : goal.returns-in_ok-add_node-clause-marks
returns-in_ok-add_node-clause-marks c = λ literals are.
    let making = c.args.builder.now in
    let node = node_at making.nodes c.args.place in
    let place : c.given.result + 2 + c.args.place ≡ variable_at making c.args.place = omega (arith, c.given.ensures.is) in
    let below : variable_at making c.args.place < length c.args.marks.now = omega (arith, c.requires.size, c.requires.variables, c.requires.place) in
    let asked = mark-asks c.args.marks.now literals (c.given.result + 2 + c.args.place) (variable_at making c.args.place) c.at.result.now true place below c.at.ensures c.if-at.true are in
    let each = rw c.nodes.ensures.is at c.mark_named.ensures.marks in
    subst (λ (t : Bool). AreMarks c.mark_named.new.marks (cond t (named node ++ literals) literals)) (sym asked) (marks-more (named node) literals c.args.marks.now c.mark_named.new.marks c.mark_named.ensures.size each are)

pub returns-else-at-clause-clauses : goal.returns-else-at-clause-clauses
returns-else-at-clause-clauses c = λ literals are.
    let making = c.args.builder.now in
    let place : c.given.result + 2 + c.args.place ≡ variable_at making c.args.place = omega (arith, c.given.ensures.is) in
    let below : variable_at making c.args.place < length c.args.marks.now = omega (arith, c.requires.size, c.requires.variables, c.requires.place) in
    let asked = mark-asks c.args.marks.now literals (c.given.result + 2 + c.args.place) (variable_at making c.args.place) c.at.result.now false place below c.at.ensures c.if-at.false are in
    subst (λ (t : Bool). Adds {A = Unit {0}} c.args.cnf.now c.args.cnf.now (cond t (clauses_at making c.args.place) []) (Ok tt)) (sym asked) (adds-none c.args.cnf.now tt)

pub returns-else-at-clause-marks : goal.returns-else-at-clause-marks
returns-else-at-clause-marks c = λ literals are.
    let making = c.args.builder.now in
    let node = node_at making.nodes c.args.place in
    let place : c.given.result + 2 + c.args.place ≡ variable_at making c.args.place = omega (arith, c.given.ensures.is) in
    let below : variable_at making c.args.place < length c.args.marks.now = omega (arith, c.requires.size, c.requires.variables, c.requires.place) in
    let asked = mark-asks c.args.marks.now literals (c.given.result + 2 + c.args.place) (variable_at making c.args.place) c.at.result.now false place below c.at.ensures c.if-at.false are in
    subst (λ (t : Bool). AreMarks c.args.marks.now (cond t (named node ++ literals) literals)) (sym asked) are
