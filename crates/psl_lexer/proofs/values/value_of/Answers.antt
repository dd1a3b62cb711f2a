use Rattle.std.proofs.Common.{◌≡◌, ◌≤◌, ◌^◌, get_or, drop, suc, drop-cons, arith}
use Rattle.psl_lexer.specs.Values.{value_after, with_digit}
use Rattle.psl_lexer.proofs.Digits.{value_after-grows}
use Rattle.psl_lexer.proofs.values.value_of.Goals as goal

pub returns-in_default-clause-past : goal.returns-in_default-clause-past
returns-in_default-clause-past c =
    let larger : 2 ^ 64 ≤ with_digit c.args.base c.loop-byte.value (get_or c.args.bytes.now c.loop-byte.byte-index 0) = c.in_default.ensures.past in
    let grows = value_after-grows c.args.base (with_digit c.args.base c.loop-byte.value (get_or c.args.bytes.now c.loop-byte.byte-index 0)) (drop (suc c.loop-byte.byte-index) c.args.bytes.now) c.requires in
    let same : value_after c.args.base (with_digit c.args.base c.loop-byte.value (get_or c.args.bytes.now c.loop-byte.byte-index 0)) (drop (suc c.loop-byte.byte-index) c.args.bytes.now) ≡ value_after c.args.base 0 c.args.bytes.now =
    rw (drop-cons c.args.bytes.now c.loop-byte.byte-index 0 c.loop-byte-test.true) at c.loop-byte.invariant.same in
    omega (arith, larger, grows, same)
