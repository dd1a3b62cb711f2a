use Rattle.std.proofs.Common.{◌≡◌, slice_index, take, map}
use Rattle.blif_linking.proofs.numbering.numbers_at.Given as goal

abbrev pub invariant-loop-place : goal.invariant-loop-place
invariant-loop-place l = l.found ≡ map (slice_index l.numbers) (take l.place-index l.places)
