use Rattle.std.proofs.Common.{◌≡◌}
use Rattle.prover.proofs.context.Prover.first_paths.Given as goal
use Rattle.prover.specs.Kept.{AreKeptFor}

abbrev pub invariant-loop-visits : goal.invariant-loop-visits
invariant-loop-visits l = record {
  netlist : l.opens ≡ l.initial.opens;
  paths : AreKeptFor l.fn.self.task l.visits 1 l.paths;
}
