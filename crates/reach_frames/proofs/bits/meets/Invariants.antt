use Rattle.std.proofs.Common.{◌≡◌, false, take}
use Rattle.std.specs.List.{list_any}
use Rattle.clauses.specs.Models.{is_true}
use Rattle.reach_frames.specs.Bits.{values_of}
use Rattle.reach_frames.proofs.bits.meets.Given as goal

abbrev pub invariant-loop-literal : goal.invariant-loop-literal
invariant-loop-literal l = list_any (is_true (values_of l.state)) (take l.literal-index l.clause) ≡ false
