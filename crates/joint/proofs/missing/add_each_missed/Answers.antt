use Rattle.std.proofs.Common.{suc, ◌+◌, drop, add-one}
use Rattle.std.proofs.lemmas.Result.{err_from_is_err_and}
use Rattle.joint_selectors.specs.Missed.{each_missed, missed}
use Rattle.run_formulas.proofs.Additions.{so_far-err, so_far-step}
use Rattle.joint.proofs.Adding.{clause-at, each-drop}
use Rattle.joint.proofs.missing.add_each_missed.Goals as goal

pub add_missed_clause-requires-clause-within : goal.add_missed_clause-requires-clause-within
add_missed_clause-requires-clause-within c =
    clause-at c.args.size c.args.clauses.now c.loop-place.place c.at.result.now c.requires.within c.at.ensures.is

pub returns-in_err-add_missed_clause : goal.returns-in_err-add_missed_clause
returns-in_err-add_missed_clause c =
    let place = c.loop-place.place in
    let base = c.args.base in
    let before = c.args.before in
    let clauses = c.args.clauses.now in
    let clause = c.at.result.now in
    let left = rw (each-drop base before clauses place clause c.at.ensures.is) at c.loop-place.invariant.so_far in
    let p = err_from_is_err_and c.from_residual.result c.from_residual.ensures.1 in
    rw (p.1, p.2) (so_far-err c.args.cnf.now c.loop-place.cnf c.add_missed_clause.new.cnf (missed base (before + place) clause)
    (each_missed base (before + suc place) (drop (suc place) clauses)) (each_missed base before clauses)
    c.in_err-add_missed_clause.field-0.0 left c.in_err-add_missed_clause.ensures)

pub loop-place-preserved : goal.loop-place-preserved
loop-place-preserved c =
    let place = c.loop-place.place in
    let base = c.args.base in
    let before = c.args.before in
    let clauses = c.args.clauses.now in
    let clause = c.at.result.now in
    let left = rw (each-drop base before clauses place clause c.at.ensures.is) at c.loop-place.invariant.so_far in
    record {
      so_far = rw add-one (so_far-step c.args.cnf.now c.loop-place.cnf c.add_missed_clause.new.cnf (missed base (before + place) clause)
          (each_missed base (before + suc place) (drop (suc place) clauses)) (each_missed base before clauses) _ left c.in_ok-add_missed_clause.ensures);
    }
