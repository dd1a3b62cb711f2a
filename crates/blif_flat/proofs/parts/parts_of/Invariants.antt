use Rattle.std.proofs.Common.{◌≡◌, map, take}
use Rattle.blif_flattening.specs.Walks.{line_view}
use Rattle.blif_flat.specs.Listing.{parts_in}
use Rattle.blif_flat.proofs.parts.parts_of.Given as goal

abbrev pub invariant-loop-line : goal.invariant-loop-line
invariant-loop-line l = l.parts ≡ parts_in (map (line_view l.models) (take l.line-index l.lines))
