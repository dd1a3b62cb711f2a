use Rattle.std.proofs.Common.{ℕ, ◌<◌}
use Rattle.blif_hierarchy.specs.Depth.{IsTooDeep}
use Rattle.blif_hierarchy.proofs.depth.first_too_deep.Given as goal

abbrev pub invariant-loop-model : goal.invariant-loop-model
invariant-loop-model g l = (other k : ℕ) → other < l.model → IsTooDeep l.models other k → ⊥
