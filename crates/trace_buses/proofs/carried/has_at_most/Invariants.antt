use Rattle.std.proofs.Common.{◌≡◌, ◌+◌, take}
use Rattle.trace.specs.Vectors.{bits_in}
use Rattle.trace_buses.proofs.carried.has_at_most.Given as goal

abbrev pub invariant-loop-vector : goal.invariant-loop-vector
invariant-loop-vector l = bits_in (take l.vector-index l.vectors) + l.left ≡ l.most
