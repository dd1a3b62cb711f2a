use Rattle.std.proofs.Common.{◌≡◌}
use Rattle.cdcl_incremental.specs.Standing.{Continues}
use Rattle.cdcl_incremental.proofs.incremental.Incremental.reduce.Given as goal

abbrev pub invariant-loop-candidate : goal.invariant-loop-candidate
invariant-loop-candidate l = record {
  continues : Continues l.fn.self l.self;
  is_refuted : l.self.is_refuted ≡ l.fn.self.is_refuted;
}
