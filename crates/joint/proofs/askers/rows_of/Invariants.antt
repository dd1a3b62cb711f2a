use Rattle.std.proofs.Common.{◌≡◌, map}
use Rattle.std.specs.List.{range_with_len}
use Rattle.joint.specs.Asked.{asked_row}
use Rattle.joint.proofs.askers.rows_of.Given as goal

abbrev pub invariant-loop-number : goal.invariant-loop-number
invariant-loop-number l = l.rows ≡ map (asked_row l.violation) (range_with_len 0 l.number)
