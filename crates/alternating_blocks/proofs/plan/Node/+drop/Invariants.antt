use Rattle.std.proofs.Common.{◌≤◌}
use Rattle.alternating_blocks.proofs.plan.Node.+drop.Given as goal
use Rattle.alternating_blocks.specs.declared.plan.Node.{size-Node}

abbrev pub invariant-loop-self : goal.invariant-loop-self
invariant-loop-self l = size-Node l.self ≤ size-Node l.fn.self
