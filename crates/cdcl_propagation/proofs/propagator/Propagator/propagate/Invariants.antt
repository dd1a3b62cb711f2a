use Rattle.std.proofs.Common.{◌≡◌, ◌-◌}
use Rattle.cdcl_propagation.specs.State.{Extends}
use Rattle.cdcl_propagation.proofs.propagator.Propagator.propagate.Given as goal

abbrev pub invariant-loop-self : goal.invariant-loop-self
invariant-loop-self l = record {
  clauses : l.self.clauses ≡ l.fn.self.clauses;
  grown : Extends l.fn.self.path l.self.path;
}

abbrev pub decreases-loop-self : goal.decreases-loop-self
decreases-loop-self l = l.self.path.variables - l.self.head
