use Rattle.std.proofs.Common.{◌≡◌, drop}
use Rattle.blif_linking.specs.Undriven.{some_free}
use Rattle.blif_linking.proofs.undriven.some_free.Given as goal

abbrev pub invariant-loop-number : goal.invariant-loop-number
invariant-loop-number l = some_free l.free l.numbers ≡ some_free l.free (drop l.number-index l.numbers)
