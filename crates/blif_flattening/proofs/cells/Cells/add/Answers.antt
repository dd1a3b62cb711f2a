use Rattle.std.proofs.Common.{sym, ap, ◌∙◌, subst}
use Rattle.blif_flattening.specs.Cells.{SignalTable, with_owner}
use Rattle.blif_flattening.specs.Members.{Among}
use Rattle.blif_flattening.proofs.Tables.{IsTable-added, table-added}
use Rattle.blif_flattening.proofs.cells.Cells.add.Goals as goal

pub invariant_of-self-2 : goal.invariant_of-self-2
invariant_of-self-2 c =
    rw c.in_ok-push.ensures.items
    (IsTable-added c.self.inside.cells.items c.self.inside.order.items c.self.invariant c.args.signal
    (subst (λ (t : SignalTable). Among c.args.signal t.owners → ⊥) (sym c.self.view_is) c.requires))

pub returns-clause-added : goal.returns-clause-added
returns-clause-added c =
    rw c.in_ok-push.ensures.items
    (table-added c.self.inside.cells.items c.self.inside.order.items c.self.invariant c.args.signal
    (subst (λ (t : SignalTable). Among c.args.signal t.owners → ⊥) (sym c.self.view_is) c.requires)
    ∙ ap (λ (t : SignalTable). with_owner t c.args.signal) c.self.view_is)
