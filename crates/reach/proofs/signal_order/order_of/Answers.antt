use Rattle.std.proofs.Common.{sym, subst, ℕ, ◌<◌, map, List, All}
use Rattle.netlist.specs.declared.table.Table.{Table}
use Rattle.netlist.specs.Sound.{AreApart}
use Rattle.reach.proofs.Outputs.{outputs-below, outputs-once}
use Rattle.reach.proofs.signal_order.order_of.Goals as goal

pub order_tables-requires-clause-outputs : goal.order_tables-requires-clause-outputs
order_tables-requires-clause-outputs c =
    subst (λ (limit : ℕ). All (λ (table : Table). table.output < limit) c.tables-2.result.now) (sym c.signals.ensures)
    (subst (λ (tables : List Table). All (λ (table : Table). table.output < c.args.netlist.now.signals) tables) (sym c.tables-2.ensures)
    (outputs-below c.args.netlist.now c.soundness_law.ensures.sound))

pub order_tables-requires-clause-once : goal.order_tables-requires-clause-once
order_tables-requires-clause-once c =
    subst (λ (tables : List Table). AreApart (map (λ (table : Table). table.output) tables)) (sym c.tables-2.ensures)
    (outputs-once c.args.netlist.now c.soundness_law.ensures.sound)
