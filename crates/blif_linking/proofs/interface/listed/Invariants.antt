use Rattle.std.proofs.Common.{◌≡◌, [], drop}
use Rattle.blif_linking.specs.Offers.{listed_in}
use Rattle.blif_linking.proofs.interface.listed.Given as goal

abbrev pub invariant-loop-item : goal.invariant-loop-item
invariant-loop-item l =
    listed_in l.names l.inputs [] l.items ≡ listed_in l.names l.inputs l.found (drop l.item-index l.items)
