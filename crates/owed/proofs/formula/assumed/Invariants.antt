use Rattle.std.proofs.Common.{◌≡◌, take}
use Rattle.owed.proofs.formula.assumed.Given as goal
use Rattle.owed.specs.Boxed.{formula_in}
use Rattle.owed.specs.Owed.{plain_assumed}

abbrev pub invariant-loop-directive : goal.invariant-loop-directive
invariant-loop-directive l = record {
  formula : formula_in l.assumed ≡ plain_assumed (take l.directive-index l.directive-items);
}
