use Rattle.std.proofs.Common.{take}
use Rattle.std.specs.List.{All}
use Rattle.cdcl_propagation.specs.Watching.{IsAmong}
use Rattle.cdcl_propagation.proofs.others.has_all.Given as goal

abbrev pub invariant-loop-literal : goal.invariant-loop-literal
invariant-loop-literal l = All (IsAmong l.pair) (take l.literal-index l.clause)
