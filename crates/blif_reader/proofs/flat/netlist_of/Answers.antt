use Rattle.std.proofs.Common.{inr, arith}
use Rattle.blif_reader.proofs.Steps.{cycle-fault, flat-few, flat-once, flat-outputs, flat-plain, flat-tables, netlist-sound}
use Rattle.blif_reader.proofs.flat.netlist_of.Goals as goal

pub overflow_cast-flat : goal.overflow_cast-flat
overflow_cast-flat c = let few = flat-few c.args.bytes.now c.args.flat c.requires.flat in omega (arith, few)

pub order_tables-requires-clause-outputs : goal.order_tables-requires-clause-outputs
order_tables-requires-clause-outputs c = flat-outputs c.args.bytes.now c.args.flat c.requires.flat c.requires.limit

pub order_tables-requires-clause-once : goal.order_tables-requires-clause-once
order_tables-requires-clause-once c = flat-once c.args.bytes.now c.args.flat c.requires.flat c.requires.limit

pub order_tables-requires-clause-size : goal.order_tables-requires-clause-size
order_tables-requires-clause-size c = flat-tables c.args.bytes.now c.args.flat c.requires.flat

pub build-requires-clause-sound : goal.build-requires-clause-sound
build-requires-clause-sound c = netlist-sound c.args.bytes.now c.args.flat c.requires.flat c.requires.limit

pub build-requires-clause-few : goal.build-requires-clause-few
build-requires-clause-few c = flat-few c.args.bytes.now c.args.flat c.requires.flat

pub returns-in-Ok-clause-few : goal.returns-in-Ok-clause-few
returns-in-Ok-clause-few c = rw c.build.ensures (flat-few c.args.bytes.now c.args.flat c.requires.flat)

pub returns-in-Ok-clause-plain : goal.returns-in-Ok-clause-plain
returns-in-Ok-clause-plain c = rw c.build.ensures (flat-plain c.args.bytes.now c.args.flat c.requires.flat)

pub returns-in-Err-clause-err : goal.returns-in-Err-clause-err
returns-in-Err-clause-err c =
    inr (cycle-fault c.args.bytes.now c.args.flat c.requires.flat c.in-Err.table c.number_at-at.result c.place_at.result
    (rw c.in-Err.is at c.in_ok-order.ensures.cycle) (rw c.as_slice.ensures at c.number_at-at.ensures) c.place_at.ensures)
