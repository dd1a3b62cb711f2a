use Rattle.std.proofs.Common.{◌≡◌, ◌↔◌, ℕ, ◌*◌, ◌<◌, true, false, length, get_or}
use Rattle.std.specs.List.{Contains}
use Rattle.cdcl.proofs.valuation.values.Given as goal

abbrev pub invariant-loop-variable : goal.invariant-loop-variable
invariant-loop-variable l = record {
  size : length l.values.items ≡ l.variable;
  is : (variable : ℕ) → variable < l.variable → (get_or l.values.items variable false ≡ true) ↔ Contains l.trail.literals (2 * variable);
}
