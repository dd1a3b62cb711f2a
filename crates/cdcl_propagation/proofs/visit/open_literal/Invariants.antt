use Rattle.std.proofs.Common.{◌≡◌, ◌⊎◌, take}
use Rattle.std.specs.List.{All, Contains}
use Rattle.cdcl_trail.specs.Literals.{opposite}
use Rattle.cdcl_propagation.proofs.visit.open_literal.Given as goal

abbrev pub invariant-loop-literal : goal.invariant-loop-literal
invariant-loop-literal l = All (λ literal. (literal ≡ l.other) ⊎ Contains l.trail.literals (opposite literal)) (take l.literal-index l.clause)
