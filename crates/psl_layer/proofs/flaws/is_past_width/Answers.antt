use Rattle.std.proofs.Common.{arith, rules}
use Rattle.std.proofs.lemmas.Bool.Decides.{nat_tests}
use Rattle.psl_layer.proofs.Values.{fits-width}
use Rattle.psl_layer.proofs.flaws.is_past_width.Goals as goal

pub returns-else-width-lt64 : goal.returns-else-width-lt64
returns-else-width-lt64 c =
    let none = fits-width c.args.width c.args.value (omega arith) (search rules) in
    grind (arith, nat_tests, none)
