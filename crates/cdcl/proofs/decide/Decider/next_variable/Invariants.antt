use Rattle.std.proofs.Common.{length}
use Rattle.cdcl.proofs.decide.Decider.next_variable.Given as goal

abbrev pub decreases-loop-variable : goal.decreases-loop-variable
decreases-loop-variable l = length l.self.order.heap.items
