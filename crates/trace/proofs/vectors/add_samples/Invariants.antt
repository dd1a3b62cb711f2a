use Rattle.std.proofs.Common.{◌≡◌, ◌++◌}
use Rattle.trace.proofs.vectors.add_samples.Given as goal
use Rattle.trace.specs.Vectors.{vector_samples}

abbrev pub invariant-loop-sample : goal.invariant-loop-sample
invariant-loop-sample l = l.text.items ≡ l.fn.text.items ++ vector_samples l.vectors l.run l.sample
