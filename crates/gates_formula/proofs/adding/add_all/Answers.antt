use Rattle.std.proofs.Common.{suc, ◌∷◌, [], drop, add-one, subst}
use Rattle.std.proofs.lemmas.Result.{err_from_is_err_and}
use Rattle.gates_formula.proofs.Additions.{AddsSoFar, Clauses, left-at, left-within, so_far-err, so_far-step}
use Rattle.gates_formula.proofs.adding.add_all.Goals as goal

pub add-requires : goal.add-requires
add-requires c =
    rw c.loop-i.invariant.so_far.variables (left-within c.args.cnf.now.variables c.args.clauses.now c.loop-i.i c.at.result.now c.at.ensures.is c.loop-i.invariant.within).0

pub returns-in_err-add : goal.returns-in_err-add
returns-in_err-add c =
    let old = c.args.cnf.now in
    let all = c.args.clauses.now in
    let i = c.loop-i.i in
    let p = err_from_is_err_and c.from_residual.result c.from_residual.ensures.1 in
    let left = subst (λ (rest : Clauses). AddsSoFar old c.loop-i.cnf rest all) (left-at all i c.at.result.now c.at.ensures.is) c.loop-i.invariant.so_far in
    rw (p.1, p.2) (so_far-err old c.loop-i.cnf c.add.new.cnf (c.at.result.now ∷ []) (drop (suc i) all) all c.in_err-add.field-0.0 left c.in_err-add.ensures)

pub loop-i-preserved : goal.loop-i-preserved
loop-i-preserved c =
    let old = c.args.cnf.now in
    let all = c.args.clauses.now in
    let i = c.loop-i.i in
    let left = subst (λ (rest : Clauses). AddsSoFar old c.loop-i.cnf rest all) (left-at all i c.at.result.now c.at.ensures.is) c.loop-i.invariant.so_far in
    rw add-one (record {
      so_far = so_far-step old c.loop-i.cnf c.add.new.cnf (c.at.result.now ∷ []) (drop (suc i) all) all c.in_ok-add.field-0 left c.in_ok-add.ensures;
      within = (left-within old.variables all i c.at.result.now c.at.ensures.is c.loop-i.invariant.within).1;
    })
