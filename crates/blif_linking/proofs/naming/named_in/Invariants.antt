use Rattle.std.proofs.Common.{◌≡◌, drop}
use Rattle.blif_linking.specs.Naming.{named_in}
use Rattle.blif_linking.proofs.naming.named_in.Given as goal

abbrev pub invariant-loop-item : goal.invariant-loop-item
invariant-loop-item l = named_in l.own l.initial.names l.items ≡ named_in l.own l.names (drop l.item-index l.items)
