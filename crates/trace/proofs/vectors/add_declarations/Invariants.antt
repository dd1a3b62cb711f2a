use Rattle.std.proofs.Common.{◌≡◌, ◌++◌}
use Rattle.trace.proofs.vectors.add_declarations.Given as goal
use Rattle.trace.specs.Vectors.{vector_declarations}

abbrev pub invariant-loop-number : goal.invariant-loop-number
invariant-loop-number l = l.text.items ≡ l.fn.text.items ++ vector_declarations l.vectors l.number
