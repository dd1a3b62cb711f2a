use Rattle.std.proofs.Common.{◌≡◌, drop}
use Rattle.blif_linking.specs.Bad.{lacks_one}
use Rattle.blif_linking.proofs.connections.lacks_one.Given as goal

abbrev pub invariant-loop-number : goal.invariant-loop-number
invariant-loop-number l = lacks_one l.given l.inputs ≡ lacks_one l.given (drop l.number l.inputs)
