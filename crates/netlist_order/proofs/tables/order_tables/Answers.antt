use Rattle.std.proofs.Common.{subst}
use Rattle.netlist_order.specs.Graph as graphs
use Rattle.netlist_order.proofs.Orders.{IsOrder-from, IsAcyclic-order, wiring-graph}
use Rattle.netlist_order.proofs.tables.order_tables.Goals as goal

pub returns-in-Ok-clause-order : goal.returns-in-Ok-clause-order
returns-in-Ok-clause-order c =
    let graph = wiring-graph c.args.tables.now _ _ _ _ _ _ c.as_slice-tables.ensures c.new-wiring.ensures.graph c.as_slice.ensures.value c.as_slice-2.ensures.value c.in_ok-lists.ensures c.in_ok-drivers.ensures.first in
    rw c.from_vec.ensures
    (IsOrder-from c.args.tables.now c.requires.once c.in-Ok.order.items
    (subst (λ g. graphs.IsOrder g c.in-Ok.order.items) graph (rw c.in-Ok.is at c.in_ok-order.ensures.order)))

pub returns-in-Ok-clause-acyclic : goal.returns-in-Ok-clause-acyclic
returns-in-Ok-clause-acyclic c =
    let graph = wiring-graph c.args.tables.now _ _ _ _ _ _ c.as_slice-tables.ensures c.new-wiring.ensures.graph c.as_slice.ensures.value c.as_slice-2.ensures.value c.in_ok-lists.ensures c.in_ok-drivers.ensures.first in
    IsAcyclic-order _ c.in-Ok.order.items
    (subst (λ g. graphs.IsOrder g c.in-Ok.order.items) graph (rw c.in-Ok.is at c.in_ok-order.ensures.order))

pub returns-clause-cycle : goal.returns-clause-cycle
returns-clause-cycle c =
    let graph = wiring-graph c.args.tables.now _ _ _ _ _ _ c.as_slice-tables.ensures c.new-wiring.ensures.graph c.as_slice.ensures.value c.as_slice-2.ensures.value c.in_ok-lists.ensures c.in_ok-drivers.ensures.first in
    subst (λ g. graphs.IsFirstOnCycle g c.in-Err.table) graph (rw c.in-Err.is at c.in_ok-order.ensures.cycle)
