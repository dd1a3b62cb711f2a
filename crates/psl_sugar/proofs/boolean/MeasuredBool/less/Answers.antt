-- Bits that are too large before the last are too large with it.
use Rattle.std.proofs.Common.{arith}
use Rattle.std.proofs.lemmas.Grind.{common_steps}
use Rattle.psl_sugar.specs.Comparisons.{compared_width}
use Rattle.psl_sugar.proofs.Sizes.{less_fits}
use Rattle.psl_sugar.proofs.boolean.MeasuredBool.less.Goals as goal

pub returns-in_err-is_less : goal.returns-in_err-is_less
returns-in_err-is_less c =
    let fits = less_fits c.args.left.now c.args.right.now c.loop-place.place (compared_width c.args.left.now c.args.right.now) (omega arith) in
    grind (arith, common_steps)
