use Rattle.std.proofs.Common.{◌≡◌, length}
use Rattle.alternating_blocks.proofs.plan.Plan.new.Given as goal
use Rattle.alternating_blocks.specs.Plan.{StandFor}

abbrev pub invariant-loop-number : goal.invariant-loop-number
invariant-loop-number l = record {
  count : length l.deltas.items ≡ l.number;
  deltas : StandFor l.automaton l.tests.items l.deltas.items;
}
