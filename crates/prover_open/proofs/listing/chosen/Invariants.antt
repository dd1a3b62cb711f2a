use Rattle.std.proofs.Common.{◌≡◌, take}
use Rattle.std.specs.Prelude.{filter}
use Rattle.netlist.specs.Valuations.{bit}
use Rattle.prover_open.proofs.listing.chosen.Given as goal

abbrev pub invariant-loop-number : goal.invariant-loop-number
invariant-loop-number l = l.found ≡ filter (bit l.bits) (take l.number-index l.numbers)
