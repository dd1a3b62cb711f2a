use Rattle.std.proofs.Common.{◌≢◌}
use Rattle.cdcl_incremental.specs.Levels.{IsOpenIn}
use Rattle.cdcl_incremental.proofs.watches.watches_of.Given as goal

abbrev pub invariant-loop-literal : goal.invariant-loop-literal
invariant-loop-literal l = record {
  first : IsOpenIn l.trail l.clause l.first.literal l.first.levels;
  second : IsOpenIn l.trail l.clause l.second.literal l.second.levels;
  differ : l.first.literal ≢ l.second.literal;
}
