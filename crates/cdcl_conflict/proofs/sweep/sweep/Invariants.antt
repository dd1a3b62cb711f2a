use Rattle.std.proofs.Common.{ℕ, ◌<◌}
use Rattle.cdcl_conflict_theory.specs.Trails.{size_of}
use Rattle.cdcl_conflict.specs.Views.{steps_of}
use Rattle.cdcl_conflict.specs.Standings.{IsListed, IsSweeping, IsExplored}
use Rattle.cdcl_conflict.proofs.sweep.sweep.Given as goal

abbrev pub invariant-loop-waiting : goal.invariant-loop-waiting
invariant-loop-waiting l = record {
  listed : IsListed (size_of (steps_of l.fn.trail)) l.standings l.reached.items;
  sweeping : IsSweeping (steps_of l.fn.trail) l.standings l.end l.waiting;
  some : 0 < l.waiting;
  explored : (number : ℕ) → IsExplored l.fn.clauses (steps_of l.fn.trail) number l.fn.standings → IsExplored l.fn.clauses (steps_of l.fn.trail) number l.standings;
}

abbrev pub decreases-loop-waiting : goal.decreases-loop-waiting
decreases-loop-waiting l = l.end
