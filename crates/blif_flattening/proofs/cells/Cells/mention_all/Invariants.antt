use Rattle.std.proofs.Common.{◌≡◌, map, take}
use Rattle.blif_flattening.specs.Numbers.{onto, place_of}
use Rattle.blif_flattening.specs.Cells.{named}
use Rattle.blif_flattening.proofs.cells.Cells.mention_all.Given as goal

abbrev pub invariant-loop-name : goal.invariant-loop-name
invariant-loop-name l = record {
  owners : l.self.owners ≡ l.fn.self.owners;
  seen : l.self.seen ≡ onto l.fn.self.seen (named l.fn.self.owners l.cells (take l.name-index l.names));
  numbers : l.numbers.items ≡ map (place_of l.self.seen) (named l.fn.self.owners l.cells (take l.name-index l.names));
}
