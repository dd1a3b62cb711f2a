use Rattle.std.proofs.Common.{◌≡◌, take, map}
use Rattle.blif_linking.specs.Undriven.{is_free}
use Rattle.blif_linking.proofs.undriven.free_names.Given as goal

abbrev pub invariant-loop-number : goal.invariant-loop-number
invariant-loop-number l = l.free.items ≡ map (is_free l.own.text.names l.own.driven l.found) (take l.number l.own.text.names)
