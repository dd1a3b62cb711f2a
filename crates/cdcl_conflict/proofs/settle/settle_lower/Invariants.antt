use Rattle.std.proofs.Common.{◌-◌}
use Rattle.cdcl_conflict_theory.specs.Trails.{size_of}
use Rattle.cdcl_conflict.specs.Views.{steps_of}
use Rattle.cdcl_conflict.specs.Standings.{IsSettling}
use Rattle.cdcl_conflict.proofs.settle.settle_lower.Given as goal

abbrev pub invariant-loop-index : goal.invariant-loop-index
invariant-loop-index l = IsSettling l.fn.clauses (steps_of l.fn.trail) l.index l.fn.standings l.standings l.reached.items

abbrev pub decreases-loop-index : goal.decreases-loop-index
decreases-loop-index l = size_of (steps_of l.fn.trail) - l.index
