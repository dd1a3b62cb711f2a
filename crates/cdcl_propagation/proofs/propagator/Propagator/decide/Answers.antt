use Rattle.std.proofs.Common.{◌≡◌, length, ap}
use Rattle.cdcl_propagation.specs.State.{State}
use Rattle.cdcl_propagation.proofs.Leveling.{watched-decided}
use Rattle.cdcl_propagation.proofs.Reasons.{reasons-decided}
use Rattle.cdcl_propagation.proofs.propagator.Propagator.decide.Goals as goal

pub invariant_of-self : goal.invariant_of-self
invariant_of-self c =
    let of = c.self.inside in
    let state = c.self.view_is in
    let watched = c.self.invariant.watched in
    let at_end : of.head ≡ length of.trail.literals = rw (ap (λ (s : State). s.head) state, ap (λ (s : State). s.path) state) c.requires.propagated in
    record {
      watched = rw c.decide.ensures (watched-decided of.clauses of.pairs.items of.lists.items of.trail of.head c.args.literal at_end watched);
      reasons = rw c.decide.ensures (reasons-decided of.clauses of.trail c.args.literal watched.reasons c.self.invariant.reasons);
      few = c.self.invariant.few;
    }
