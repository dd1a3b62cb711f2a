use Rattle.std.proofs.Common.{◌≡◌, take, map}
use Rattle.blif_linking.specs.Offers.{interface_in}
use Rattle.blif_linking.proofs.interface.interfaces_of.Given as goal

abbrev pub invariant-loop-model : goal.invariant-loop-model
invariant-loop-model l = l.interfaces.items ≡ map (interface_in l.whole) (take l.model-index l.models)
