use Rattle.std.proofs.Common.{◌≡◌, map}
use Rattle.std.specs.List.{range_with_len}
use Rattle.trace.proofs.vectors.vector_names.Given as goal
use Rattle.trace.specs.Vectors.{vector_name}

abbrev pub invariant-loop-number : goal.invariant-loop-number
invariant-loop-number l = l.names ≡ map (vector_name l.vectors) (range_with_len 0 l.number)
