use Rattle.std.proofs.Common.{suc, [], ◌∷◌, drop, add-one}
use Rattle.std.proofs.lemmas.Result.{err_from_is_err_and}
use Rattle.run_formulas.proofs.Additions.{so_far-err, so_far-step}
use Rattle.joint.proofs.Adding.{clause-at}
use Rattle.joint.proofs.Additions.{clauses-drop}
use Rattle.joint.proofs.meeting.add_met_clauses.Goals as goal

pub add_clause-requires : goal.add_clause-requires
add_clause-requires c =
    rw c.loop-place.invariant.so_far.variables
    (clause-at c.args.cnf.now.variables c.args.clauses.now c.loop-place.place c.at.result.now c.requires c.at.ensures.is)

pub returns-in_err-add_clause : goal.returns-in_err-add_clause
returns-in_err-add_clause c =
    let place = c.loop-place.place in
    let clauses = c.args.clauses.now in
    let clause = c.at.result.now in
    let left = rw (clauses-drop clauses place clause c.at.ensures.is) at c.loop-place.invariant.so_far in
    let p = err_from_is_err_and c.from_residual.result c.from_residual.ensures.1 in
    rw (p.1, p.2) (so_far-err c.args.cnf.now c.loop-place.cnf c.add_clause.new.cnf (clause ∷ []) (drop (suc place) clauses) clauses
    c.in_err-add_clause.field-0.0 left c.in_err-add_clause.ensures)

pub loop-place-preserved : goal.loop-place-preserved
loop-place-preserved c =
    let place = c.loop-place.place in
    let clauses = c.args.clauses.now in
    let clause = c.at.result.now in
    let left = rw (clauses-drop clauses place clause c.at.ensures.is) at c.loop-place.invariant.so_far in
    record {
      so_far = rw add-one (so_far-step c.args.cnf.now c.loop-place.cnf c.add_clause.new.cnf (clause ∷ []) (drop (suc place) clauses) clauses _
          left c.in_ok-add_clause.ensures);
    }
