use Rattle.std.proofs.Common.{◌≡◌, ◌∙◌, ◌<◌, ◌+◌, ◌-◌, ◌*◌, get_or, drop, length, sym, refl, suc, drop-cons, arith}
use Rattle.std.proofs.lemmas.Bool.{eqb-false}
use Rattle.std.proofs.lemmas.List.{drop_all}
use Rattle.psl_base.proofs.Digits.{number_after-grows, past_most, decimal_upto-past, decimal_upto-within}
use Rattle.psl_base.specs.Decimals.{number_after}
use Rattle.psl_base.proofs.decimals.decimal.Goals as goal

pub returns-in_default-clause-is : goal.returns-in_default-clause-is
returns-in_default-clause-is c =
    let past : c.args.most < c.loop-byte.number * 10 + (get_or c.args.text.now c.loop-byte.byte-index 0 - 48) = past_most _ _ c.in_default.ensures in
    let grows = number_after-grows (c.loop-byte.number * 10 + (get_or c.args.text.now c.loop-byte.byte-index 0 - 48)) (drop (suc c.loop-byte.byte-index) c.args.text.now) in
    let same : number_after (c.loop-byte.number * 10 + (get_or c.args.text.now c.loop-byte.byte-index 0 - 48)) (drop (suc c.loop-byte.byte-index) c.args.text.now) ≡ number_after 0 c.args.text.now =
    rw (drop-cons c.args.text.now c.loop-byte.byte-index 0 c.loop-byte-test.true) at c.loop-byte.invariant.same in
    sym (decimal_upto-past c.args.most c.args.text.now (omega (arith, past, grows, same)))

pub returns-clause-is : goal.returns-clause-is
returns-clause-is c =
    let some : 0 < length c.args.text.now = let ne = eqb-false (length c.args.text.now) 0 (sym c.if-is_empty.ensures) in omega (arith, ne) in
    let end = drop_all c.loop-byte.byte-index c.args.text.now c.loop-byte-test.false in
    decimal_upto-within c.args.most c.loop-byte.number c.args.text.now some (c.loop-byte.invariant.digits ∙ rw end refl) (rw end at c.loop-byte.invariant.same) c.loop-byte.invariant.fits
