use Rattle.std.proofs.Common.{◌≡◌, ◌+◌, ◌<◌, suc, take, length, ap, arith}
use Rattle.bounded.specs.Places.{bits_of}
use Rattle.bounded.proofs.Blocks.{bits-next}
use Rattle.bounded.proofs.counting.bits_of.Goals as goal

pub loop-number-preserved : goal.loop-number-preserved
loop-number-preserved c =
    let w = c.args.width in
    let os = c.args.automaton.now.obligations in
    let i = c.loop-number.number in
    let low : i < length os = omega arith in
    let next = bits-next w os i low in
    let e : i + 1 ≡ suc i = omega arith in
    let same = ap (λ k. bits_of w (take k os)) e in
    record {
      are = omega (arith, next, same, c.loop-number.invariant.are);
      few = omega (arith, c.loop-number.invariant.few);
    }
