use Rattle.std.proofs.Common.{take}
use Rattle.std.specs.Prelude.{All}
use Rattle.findings.proofs.sizes.check_all.Given as goal
use Rattle.findings.specs.Sizes.{IsWithin}

abbrev pub invariant-loop-directive : goal.invariant-loop-directive
invariant-loop-directive l = All (IsWithin l.fn.netlist l.fn.depth l.fn.covers l.fn.unit) (take l.directive-index l.directive-items)
