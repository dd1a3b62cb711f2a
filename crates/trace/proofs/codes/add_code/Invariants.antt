use Rattle.std.proofs.Common.{◌≡◌, ◌≤◌, ◌++◌}
use Rattle.trace.proofs.codes.add_code.Given as goal
use Rattle.trace.specs.Codes.{code_of}

abbrev pub invariant-loop-rest : goal.invariant-loop-rest
invariant-loop-rest l = record {
  within : l.rest ≤ l.number;
  same : l.text.items ++ code_of l.rest ≡ l.fn.text.items ++ code_of l.number;
}

abbrev pub decreases-loop-rest : goal.decreases-loop-rest
decreases-loop-rest l = l.rest
