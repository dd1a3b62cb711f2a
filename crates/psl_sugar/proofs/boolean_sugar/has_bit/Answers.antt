-- A number of 64 bits has no bit past them.
use Rattle.std.proofs.Common.{arith, rules}
use Rattle.std.proofs.lemmas.Bool.Decides.{nat_tests}
use Rattle.psl_sugar.proofs.Sizes.{no_bit}
use Rattle.psl_sugar.proofs.boolean_sugar.has_bit.Goals as goal

pub returns-else-place-lt64 : goal.returns-else-place-lt64
returns-else-place-lt64 c =
    let none = no_bit c.args.value c.args.place (search rules) (omega arith) in
    grind (arith, nat_tests, none)
