use Rattle.std.proofs.Common.{rules, ◌≡◌, ◌∙◌, suc, ◌<◌, pos, neg_ℤ, [], ◌∷◌, map, length, drop, get_or, append_assoc, drop-cons, arith, w32, add-one}
use mir.Val.{SFits}
use Rattle.std.proofs.lemmas.Int.{to_z-of_z}
use Rattle.joint.proofs.Adding.{within-next}
use Rattle.clauses.specs.declared.flat.TheConstants.{MOST_VARIABLES}
use Rattle.joint.proofs.meeting.opposite.Goals as goal

pub loop-i-preserved : goal.loop-i-preserved
loop-i-preserved c =
    let i = c.loop-i.i in
    let literals = c.args.literals.now in
    let below : i < length literals = omega arith in
    let here = get_or literals i (pos 0) in
    let fits_here : SFits w32 here = search rules in
    let fits_negated : SFits w32 c.negated.result = search rules in
    let is : c.negated.result ≡ neg_ℤ here = simp to_z-of_z at c.negated.ensures.is in
    let pushed = rw is at (simp to_z-of_z at c.in_ok-push.ensures.ok) in
    let left = rw (drop-cons literals i (pos 0) below) at c.loop-i.invariant.so_far in
    record {
      so_far = rw (add-one, pushed) (append_assoc c.loop-i.opposite (neg_ℤ here ∷ []) (map neg_ℤ (drop (suc i) literals)) ∙ left);
      within = rw add-one (within-next MOST_VARIABLES literals i below c.loop-i.invariant.within);
    }
