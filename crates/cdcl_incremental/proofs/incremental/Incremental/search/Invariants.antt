use Rattle.std.proofs.Common.{◌≡◌, false}
use Rattle.cdcl_incremental.specs.Standing.{Continues}
use Rattle.cdcl_incremental.proofs.incremental.Incremental.search.Given as goal

abbrev pub invariant-loop-self : goal.invariant-loop-self
invariant-loop-self l = record {
  continues : Continues l.fn.self l.self;
  not_refuted : l.self.is_refuted ≡ false;
}

abbrev pub decreases-loop-self : goal.decreases-loop-self
decreases-loop-self l = l.left
