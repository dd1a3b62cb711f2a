use Rattle.std.proofs.Common.{◌≡◌}
use Rattle.gates_theory.specs.Distinct.{following}
use Rattle.run_formulas.proofs.variables.following.Given as goal

abbrev pub invariant-loop-k : goal.invariant-loop-k
invariant-loop-k l = l.literals ≡ following l.variables l.k
