use Rattle.std.proofs.Common.{arith}
use Rattle.std.proofs.lemmas.Int.{ints, to_z-of_z}
use Rattle.std.proofs.lemmas.List.FromFn.{map-range_with_len_more}
use Rattle.reach_frames.specs.Cubes.{bit_literal}
use Rattle.reach_frames.proofs.bits.cube_of.Goals as goal

pub loop-place-preserved : goal.loop-place-preserved
loop-place-preserved c =
    let state = c.args.state.now in
    let more = map-range_with_len_more (bit_literal state) 0 c.loop-place.place c.loop-place.place (omega arith) in
    grind (arith, ints, to_z-of_z, more)
