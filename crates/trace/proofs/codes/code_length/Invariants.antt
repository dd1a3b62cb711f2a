use Rattle.std.proofs.Common.{◌≡◌, ◌≤◌, ◌+◌, length}
use Rattle.trace.proofs.codes.code_length.Given as goal
use Rattle.trace.specs.Codes.{code_of}

abbrev pub invariant-loop-rest : goal.invariant-loop-rest
invariant-loop-rest l = record {
  within : l.rest ≤ l.number;
  same : l.digits + length (code_of l.rest) ≡ length (code_of l.number) + 1;
  few : l.digits ≤ length (code_of l.number);
}

abbrev pub decreases-loop-rest : goal.decreases-loop-rest
decreases-loop-rest l = l.rest
