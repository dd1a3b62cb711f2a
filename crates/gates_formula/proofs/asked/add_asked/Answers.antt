use Rattle.std.proofs.Common.{◌≡◌, ◌≤◌, ◌<◌, ◌-◌, ◌∙◌, suc, length, ap, sym, subst, arith}
use Rattle.std.proofs.lemmas.Result.{err_from_is_err_and}
use Rattle.gates_formula.proofs.Reached.{Asked, asked-end, asked-fails, asked-start, asked-step, wanted_from}
use Rattle.gates_formula.proofs.asked.add_asked.Goals as goal

pub loop-place-init : goal.loop-place-init
loop-place-init c =
    let making = c.args.builder.now in
    let past : length making.nodes ≤ length c.nodes-place.result.now = omega (arith, ap length c.nodes-place.ensures.is) in
    record {
      size = c.in_ok-marks.ensures.size ∙ ap suc (c.variables.ensures.is ∙ sym c.requires.variables);
      added = asked-start making (length c.nodes-place.result.now) c.args.clauses.now c.args.cnf.now c.in_ok-marks.marks past c.in_ok-marks.ensures.marks;
    }

pub returns-in_err-add_wanted : goal.returns-in_err-add_wanted
returns-in_err-add_wanted c =
    let making = c.args.builder.now in
    let clauses = c.args.clauses.now in
    let place = c.loop-place.place - 1 in
    let next : c.loop-place.place ≡ suc place = omega arith in
    let below : place < length making.nodes = omega (arith, ap length c.nodes-place.ensures.is) in
    let before = subst (λ p. Asked making p clauses c.args.cnf.now c.loop-place.cnf c.loop-place.marks) next c.loop-place.invariant.added in
    let p = err_from_is_err_and c.from_residual-in_err-add_wanted.result c.from_residual-in_err-add_wanted.ensures.1 in
    rw (p.1, p.2) (asked-fails making place clauses c.args.cnf.now c.loop-place.cnf c.add_wanted.new.cnf c.loop-place.marks c.in_err-add_wanted.field-0.0 below before
    (c.in_err-add_wanted.ensures.clauses (wanted_from making (suc place) clauses) before.marks))

pub loop-place-preserved : goal.loop-place-preserved
loop-place-preserved c =
    let making = c.args.builder.now in
    let clauses = c.args.clauses.now in
    let place = c.loop-place.place - 1 in
    let next : c.loop-place.place ≡ suc place = omega arith in
    let below : place < length making.nodes = omega (arith, ap length c.nodes-place.ensures.is) in
    let before = subst (λ p. Asked making p clauses c.args.cnf.now c.loop-place.cnf c.loop-place.marks) next c.loop-place.invariant.added in
    let wants = wanted_from making (suc place) clauses in
    record {
      size = c.in_ok-add_wanted.ensures.size ∙ c.loop-place.invariant.size;
      added = asked-step making place clauses c.args.cnf.now c.loop-place.cnf c.add_wanted.new.cnf c.loop-place.marks c.add_wanted.new.marks c.in_ok-add_wanted.field-0 below before
          (c.in_ok-add_wanted.ensures.clauses wants before.marks) (c.in_ok-add_wanted.ensures.marks wants before.marks);
    }

pub returns : goal.returns
returns c =
    let making = c.args.builder.now in
    let clauses = c.args.clauses.now in
    let none : c.loop-place.place ≡ 0 = omega arith in
    let before = subst (λ p. Asked making p clauses c.args.cnf.now c.loop-place.cnf c.loop-place.marks) none c.loop-place.invariant.added in
    asked-end making clauses c.args.cnf.now c.loop-place.cnf c.loop-place.marks tt before
