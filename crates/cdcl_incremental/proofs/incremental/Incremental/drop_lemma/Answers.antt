use Rattle.std.proofs.Common.{refl, ap}
use Rattle.cdcl_propagation.specs.State.{State}
use Rattle.cdcl_incremental.proofs.Asking.{continues_with, dropped_stands}
use Rattle.cdcl_incremental.proofs.incremental.Incremental.drop_lemma.Goals as goal

pub returns-then-can_drop-clause-continues : goal.returns-then-can_drop-clause-continues
returns-then-can_drop-clause-continues c =
    let solver = c.args.self.now in
    continues_with solver _ refl refl (ap (λ (s : State). s.path.variables) c.remove.ensures) refl refl refl
    (rw c.remove.ensures (dropped_stands solver c.args.number c.requires c.if-can_drop.ensures.lemma c.if-can_drop.ensures.long))
    c.requires
