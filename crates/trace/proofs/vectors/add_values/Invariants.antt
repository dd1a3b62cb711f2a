use Rattle.std.proofs.Common.{◌≡◌, ◌++◌}
use Rattle.trace.proofs.vectors.add_values.Given as goal
use Rattle.trace.specs.Vectors.{vector_lines}

abbrev pub invariant-loop-number : goal.invariant-loop-number
invariant-loop-number l = l.text.items ≡ l.fn.text.items ++ vector_lines l.vectors l.values l.number
