use Rattle.std.proofs.Common.{take}
use Rattle.owed.proofs.size.assumed_size.Given as goal
use Rattle.owed.specs.Owed.{plain_assumed}
use Rattle.owed.specs.Sizes.{AreSizesOf}

abbrev pub invariant-loop-directive : goal.invariant-loop-directive
invariant-loop-directive l = record { size : AreSizesOf l.size (plain_assumed (take l.directive-index l.directive-items)) }
