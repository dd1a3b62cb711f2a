use Rattle.std.proofs.Common.{◌≡◌, map}
use Rattle.std.specs.List.{range_with_len}
use Rattle.reach_frames.specs.Cubes.{bit_literal}
use Rattle.reach_frames.proofs.bits.cube_of.Given as goal

abbrev pub invariant-loop-place : goal.invariant-loop-place
invariant-loop-place l = l.cube ≡ map (bit_literal l.state) (range_with_len 0 l.place)
