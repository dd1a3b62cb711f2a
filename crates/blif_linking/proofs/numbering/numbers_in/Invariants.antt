use Rattle.std.proofs.Common.{◌≡◌, take, map}
use Rattle.blif_linking.specs.Numbering.{number_in}
use Rattle.blif_linking.proofs.numbering.numbers_in.Given as goal

abbrev pub invariant-loop-number : goal.invariant-loop-number
invariant-loop-number l = l.numbers.items ≡ map (number_in l.names) (take l.number l.own)
