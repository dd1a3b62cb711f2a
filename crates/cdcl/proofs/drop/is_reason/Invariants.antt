use Rattle.std.proofs.Common.{take}
use Rattle.std.specs.List.{All}
use Rattle.cdcl.specs.Reducing.{IsNoReason}
use Rattle.cdcl.proofs.drop.is_reason.Given as goal

abbrev pub invariant-loop-literal : goal.invariant-loop-literal
invariant-loop-literal l = All (IsNoReason l.trail l.number) (take l.literal-index l.clause)
