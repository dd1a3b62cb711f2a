use Rattle.std.proofs.Common.{rules, ◌≡◌, suc, ◌+◌, ◌<◌, pos, length, ap, ◌∙◌, add-one, arith, w32}
use mir.Val.{SFits}
use Rattle.std.proofs.lemmas.Int.{to_z-of_z}
use Rattle.gates.proofs.Drops.{following-set}
use Rattle.gates.proofs.states.write_following.Goals as goal

pub loop-i-preserved : goal.loop-i-preserved
loop-i-preserved c =
    let fits : SFits w32 c.positive.result = search rules in
    let below : c.loop-i.i < length c.args.literals.now = omega arith in
    let value : c.positive.result ≡ pos (suc (c.args.variables + c.loop-i.i)) = c.positive.ensures ∙ ap pos (omega arith) in
    rw (to_z-of_z w32 c.positive.result fits, value, c.loop-i.invariant, add-one) (following-set c.args.variables c.loop-i.i c.args.literals.now below)
