use Rattle.std.proofs.Common.{◌<◌, sym, ap, ◌∙◌, suc, add-one, arith}
use Rattle.bounded_theory.proofs.Digits.{width-most, width-next}
use Rattle.bounded.proofs.counting.+number_width.Goals as goal

pub returns-else-number-eq0-clause-is : goal.returns-else-number-eq0-clause-is
returns-else-number-eq0-clause-is t c =
    let some : 0 < c.args.number = omega (arith, c.if-number-eq0.false) in
    rw add-one (ap suc c.number_width.ensures.is ∙ sym (width-next c.args.number some))

pub returns-else-number-eq0-clause-few : goal.returns-else-number-eq0-clause-few
returns-else-number-eq0-clause-few t c =
    let some : 0 < c.args.number = omega (arith, c.if-number-eq0.false) in
    omega (arith, c.number_width.ensures.is, width-next c.args.number some, width-most c.args.number c.ranges.number.fits)
