use Rattle.std.proofs.Common.{◌+◌, false, get_or, sym, arith}
use Rattle.bounded.proofs.FirstPlaces.{first-here, first-none}
use Rattle.bounded.proofs.runs.first_true.Goals as goal

pub returns-then-values-before-clause-is : goal.returns-then-values-before-clause-is
returns-then-values-before-clause-is c =
    sym (first-here c.args.count c.loop-place.place (λ place. get_or c.args.values.now (c.args.before + place) false) c.loop-place-test.true c.loop-place.invariant c.if-values-before.true)

pub returns-clause-is : goal.returns-clause-is
returns-clause-is c =
    let high = c.loop-place-test.false in
    sym (first-none c.args.count (λ place. get_or c.args.values.now (c.args.before + place) false) (λ k low. c.loop-place.invariant k (omega (arith, high, low))))
