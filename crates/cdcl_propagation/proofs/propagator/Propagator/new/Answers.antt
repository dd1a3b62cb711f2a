use Rattle.std.proofs.Common.{length, ap, arith}
use Rattle.cdcl_propagation.proofs.Starting.{watched_empty}
use Rattle.cdcl_propagation.proofs.propagator.Propagator.new.Goals as goal

pub invariant_of-result : goal.invariant_of-result
invariant_of-result c = record {
  watched = rw (c.new.ensures, c.in_ok-push.ensures.items, c.new-pairs.ensures.items, c.in_ok-new.ensures, c.in_ok-empty_lists.ensures) (watched_empty c.args.variables);
  reasons = rw c.in_ok-new.ensures (λ place within. absurd (omega arith));
  few = omega (arith, ap length c.new.ensures);
}
