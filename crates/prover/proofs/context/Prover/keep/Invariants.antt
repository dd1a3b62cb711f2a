use Rattle.std.proofs.Common.{◌≡◌}
use Rattle.prover.proofs.context.Prover.keep.Given as goal
use Rattle.prover.specs.Kept.{AreKeptTo}

abbrev pub invariant-loop-visits : goal.invariant-loop-visits
invariant-loop-visits l = record {
  netlist : l.opens ≡ l.initial.opens;
  paths : AreKeptTo l.fn.self.task l.visits l.fn.window l.paths;
}
