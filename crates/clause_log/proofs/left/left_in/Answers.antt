use Rattle.std.proofs.Common.{ℤ, List, subst, rules, pos, take, get_or}
use Rattle.std.proofs.lemmas.List.{take_more, take_all}
use Rattle.std.proofs.lemmas.Int.{to_z-of_z}
use mir.Syntax.{w32}
use mir.Val.{SFits}
use Rattle.clause_log.specs.Lefts.{LeavesOf}
use Rattle.clause_log.proofs.left.left_in.Goals as goal

pub loop-literal-preserved : goal.loop-literal-preserved
loop-literal-preserved c =
    let clause = c.args.clause.now in
    let place = c.loop-literal.literal-index in
    let fits : SFits w32 (get_or clause place (pos 0)) = search rules in
    let next = c.with_literal-left.ensures (take place clause) c.loop-literal.invariant in
    rw (take_more clause place (pos 0) c.loop-literal-test.true) (rw (to_z-of_z w32 (get_or clause place (pos 0)) fits) at next)

pub returns : goal.returns
returns c = subst (λ (clause : List ℤ). LeavesOf c.args.set.now.members clause c.loop-literal.left) (take_all c.loop-literal.literal-index c.args.clause.now c.loop-literal-test.false) c.loop-literal.invariant
