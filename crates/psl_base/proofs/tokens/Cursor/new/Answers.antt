use Rattle.std.proofs.Common.{arith}
use Rattle.psl_base.proofs.Placing.{length-tokens}
use Rattle.psl_base.proofs.tokens.Cursor.new.Goals as goal

pub returns-clause-few : goal.returns-clause-few
returns-clause-few c = omega (arith, length-tokens c.args.text.now, c.requires)
