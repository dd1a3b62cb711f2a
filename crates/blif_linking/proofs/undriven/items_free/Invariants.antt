use Rattle.std.proofs.Common.{◌≡◌, drop}
use Rattle.blif_linking.specs.Undriven.{items_free}
use Rattle.blif_linking.proofs.undriven.items_free.Given as goal

abbrev pub invariant-loop-item : goal.invariant-loop-item
invariant-loop-item l = items_free l.free l.items ≡ items_free l.free (drop l.item-index l.items)
