-- Bits that are too large before the last are too large with it.
use Rattle.std.proofs.Common.{◌-◌, length, arith}
use Rattle.std.proofs.lemmas.Grind.{common_steps}
use Rattle.psl_sugar.specs.Booleans.{bit_of}
use Rattle.psl_sugar.proofs.Sizes.{disjunction_within}
use Rattle.psl_sugar.proofs.boolean.MeasuredBool.some_bit.Goals as goal

pub returns-in_err-all : goal.returns-in_err-all
returns-in_err-all c =
    let fits = disjunction_within (bit_of c.args.vector.now) c.loop-more.more (length c.args.vector.now - 1) (omega arith) in
    grind (arith, common_steps)
