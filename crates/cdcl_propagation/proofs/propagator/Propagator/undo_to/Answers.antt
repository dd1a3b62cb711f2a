use Rattle.std.proofs.Common.{◌<◌, length, get_or, ap}
use Rattle.cdcl_propagation.specs.State.{State}
use Rattle.cdcl_propagation.proofs.Leveling.{watched-undone}
use Rattle.cdcl_propagation.proofs.Reasons.{reasons-undone}
use Rattle.cdcl_propagation.proofs.propagator.Propagator.undo_to.Goals as goal

pub invariant_of-self : goal.invariant_of-self
invariant_of-self c =
    let of = c.self.inside in
    let state = c.self.view_is in
    let level = c.args.level in
    let path = c.limits.ensures.path in
    let inside : level < length of.trail.limits = rw (ap (λ (s : State). s.path) state) c.requires in
    let start = ap (λ ls. get_or ls level 0) c.limits.ensures.is in
    record {
      watched = rw (c.undo_to.ensures, start) (watched-undone of.clauses of.pairs.items of.lists.items of.trail of.head level path inside c.self.invariant.watched);
      reasons = rw c.undo_to.ensures (reasons-undone of.clauses of.trail level path inside c.self.invariant.reasons);
      few = c.self.invariant.few;
    }
