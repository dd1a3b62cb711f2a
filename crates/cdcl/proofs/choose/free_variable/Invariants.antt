use Rattle.std.proofs.Common.{◌⊎◌, ℕ, ◌+◌, ◌*◌, ◌<◌}
use Rattle.std.specs.List.{Contains}
use Rattle.cdcl.proofs.choose.free_variable.Given as goal

abbrev pub invariant-loop-variable : goal.invariant-loop-variable
invariant-loop-variable l =
    (variable : ℕ) → variable < l.variable → Contains l.trail.literals (2 * variable) ⊎ Contains l.trail.literals (2 * variable + 1)
