use Rattle.std.proofs.Common.{◌≤◌}
use Rattle.alternating.proofs.positive.Positive.+drop.Given as goal
use Rattle.alternating.specs.declared.positive.Positive.{size-Positive}

abbrev pub invariant-loop-self : goal.invariant-loop-self
invariant-loop-self l = size-Positive l.self ≤ size-Positive l.fn.self
