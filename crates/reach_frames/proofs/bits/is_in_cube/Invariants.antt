use Rattle.std.proofs.Common.{◌≡◌, true, take}
use Rattle.std.specs.List.{list_all}
use Rattle.clauses.specs.Models.{is_true}
use Rattle.reach_frames.specs.Bits.{values_of}
use Rattle.reach_frames.proofs.bits.is_in_cube.Given as goal

abbrev pub invariant-loop-literal : goal.invariant-loop-literal
invariant-loop-literal l = list_all (is_true (values_of l.state)) (take l.literal-index l.cube) ≡ true
