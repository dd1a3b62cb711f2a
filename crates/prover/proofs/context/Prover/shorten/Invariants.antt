use Rattle.std.proofs.Common.{◌-◌, ◌≤◌}
use Rattle.prover.proofs.context.Prover.shorten.Given as goal
use Rattle.prover.specs.Glances.{IsOfSize}
use Rattle.prover.specs.Stops.{NoneBelowFor}

abbrev pub invariant-loop-low : goal.invariant-loop-low
invariant-loop-low l = record {
  some : 1 ≤ l.low;
  order : l.low ≤ l.high;
  within : l.high ≤ l.fn.self.task.options.depth;
  none_below : NoneBelowFor l.fn.self.task l.low;
  run : IsOfSize l.fn.self.task l.high l.shortest;
}

abbrev pub decreases-loop-low : goal.decreases-loop-low
decreases-loop-low l = l.high - l.low
