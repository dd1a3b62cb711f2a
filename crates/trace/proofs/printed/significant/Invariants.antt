use Rattle.std.proofs.Common.{◌≡◌, length}
use Rattle.trace.proofs.printed.significant.Given as goal
use Rattle.trace.specs.Printed.{significant}

abbrev pub invariant-loop-rest : goal.invariant-loop-rest
invariant-loop-rest l = significant l.rest ≡ significant l.digits

abbrev pub decreases-loop-rest : goal.decreases-loop-rest
decreases-loop-rest l = length l.rest
