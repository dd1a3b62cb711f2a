use Rattle.psl_layer_theory.specs.Buses.{bit_behind}
use Rattle.psl_names.proofs.Bits.{IsRead}
use Rattle.psl_names.proofs.bus_bits.joined.Given as goal

abbrev pub invariant-loop-more : goal.invariant-loop-more
invariant-loop-more l = IsRead (bit_behind l.names l.text l.is_whole) l.low l.more l.is_clear l.signals.items
