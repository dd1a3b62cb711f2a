use Rattle.std.proofs.Common.{◌≡◌, suc, ◌+◌, ◌*◌, ◌/◌, ◌%◌, set, slice_index, subst, arith}
use Rattle.clause_store.proofs.Gaps.{IsMoved, moved-none, moved-more, moved-stop}
use Rattle.clause_store.proofs.region.close_gaps.Goals as goal

pub loop-place-init : goal.loop-place-init
loop-place-init c = moved-none c.args.words.now c.args.ends.now c.requires.rising

pub move_down-end-requires-clause-within : goal.move_down-end-requires-clause-within
move_down-end-requires-clause-within c =
    (moved-stop c.loop-place.invariant (omega (arith, c.loop-place-test.true, c.loop-place.invariant.count))).1

pub loop-place-preserved : goal.loop-place-preserved
loop-place-preserved c =
    let at = c.loop-place in
    let code = slice_index at.ends at.place in
    let end = c.move_down-end.result in
    let next : suc at.place ≡ at.place + 1 = omega arith in
    let half : (2 * end + code % 2) / 2 ≡ end = omega arith in
    let bit : (2 * end + code % 2) % 2 ≡ code % 2 = omega arith in
    subst (λ place. IsMoved c.args.words.now c.args.ends.now c.move_down-end.new.words (set at.ends at.place (2 * end + code % 2)) place (code / 2) end) next
    (moved-more c.args.words.now c.args.ends.now at.words at.ends c.move_down-end.new.words at.place at.begin at.end end (2 * end + code % 2)
    at.invariant (omega (arith, c.loop-place-test.true, at.invariant.count)) c.move_down-end.ensures.moved c.move_down-end.ensures.end half bit)
