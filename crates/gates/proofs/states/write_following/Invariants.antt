use Rattle.std.proofs.Common.{◌≡◌, ◌++◌, drop}
use Rattle.gates_theory.specs.Distinct.{following}
use Rattle.gates.proofs.states.write_following.Given as goal

abbrev pub invariant-loop-i : goal.invariant-loop-i
invariant-loop-i l = l.literals ≡ following l.variables l.i ++ drop l.i l.initial.literals
