use Rattle.std.proofs.Common.{◌≡◌, map, take}
use Rattle.blif_flattening.specs.Cells.{signal_in}
use Rattle.blif_flattening.specs.Listing.{number_in_list}
use Rattle.blif_flattening.proofs.cells.Cells.numbers.Given as goal

abbrev pub invariant-loop-cell : goal.invariant-loop-cell
invariant-loop-cell l = l.numbers ≡ map (λ cell. number_in_list l.self.seen (signal_in l.self.owners cell)) (take l.cell-index l.cells)
