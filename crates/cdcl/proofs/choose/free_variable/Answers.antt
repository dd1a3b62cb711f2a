use Rattle.std.proofs.Common.{below_more, arith}
use Rattle.cdcl.proofs.choose.free_variable.Goals as goal

pub loop-variable-preserved : goal.loop-variable-preserved
loop-variable-preserved c = below_more _ _ c.loop-variable.invariant (rw c.if-not-has_value.false at c.has_value.ensures.yes)

pub returns-clause-none : goal.returns-clause-none
returns-clause-none c = λ variable below. c.loop-variable.invariant variable (omega (arith, c.requires.all, c.loop-variable-test.false))
