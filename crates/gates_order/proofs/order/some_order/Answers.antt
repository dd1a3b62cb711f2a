use Rattle.std.proofs.Common.{arith}
use Rattle.netlist.proofs.Driving.{outputs-within}
use Rattle.gates_order.proofs.Graphs.{few-tables, no-cycle}
use Rattle.gates_order.proofs.Places.{apart-outputs}
use Rattle.gates_order.proofs.order.some_order.Goals as goal

pub order_tables-requires-clause-outputs : goal.order_tables-requires-clause-outputs
order_tables-requires-clause-outputs c = rw (c.tables.ensures, c.signals.ensures) (outputs-within c.args.netlist.now c.soundness_law.ensures.sound)

pub order_tables-requires-clause-once : goal.order_tables-requires-clause-once
order_tables-requires-clause-once c = rw c.tables.ensures (apart-outputs c.args.netlist.now c.soundness_law.ensures.sound)

pub order_tables-requires-clause-size : goal.order_tables-requires-clause-size
order_tables-requires-clause-size c = rw c.tables.ensures (let few = few-tables c.args.netlist.now c.soundness_law.ensures.sound in omega arith)

pub unreachable-requires : goal.unreachable-requires
unreachable-requires c =
    let some = c.soundness_law.ensures.ordered in
    let cycle = rw c.in-Err.is at c.in_ok-order.ensures.cycle in
    no-cycle c.args.netlist.now.tables some.0 some.1 c.in-Err.field-0 (rw c.tables.ensures at cycle.itself)

pub returns-in_err-order-clause-few : goal.returns-in_err-order-clause-few
returns-in_err-order-clause-few c = (let few = few-tables c.args.netlist.now c.soundness_law.ensures.sound in omega arith)

pub returns-clause-few : goal.returns-clause-few
returns-clause-few c = (let few = few-tables c.args.netlist.now c.soundness_law.ensures.sound in omega arith)
