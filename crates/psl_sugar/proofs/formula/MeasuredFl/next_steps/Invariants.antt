use Rattle.std.proofs.Common.{◌≡◌}
use Rattle.psl_sugar.specs.Properties.{next_steps}
use Rattle.psl_sugar.proofs.formula.MeasuredFl.next_steps.Given as goal

abbrev pub invariant-loop-done : goal.invariant-loop-done
invariant-loop-done l = l.all ≡ next_steps l.done l.fn.self
