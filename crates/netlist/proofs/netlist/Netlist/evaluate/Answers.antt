use Rattle.std.proofs.Common.{◌≡◌, ◌∙◌}
use Rattle.netlist.proofs.Filled.{length-with_values, filled, filled-from, filled-valuation, filled-free}
use Rattle.netlist.proofs.Uniqueness.{one-valuation}
use Rattle.netlist.proofs.netlist.Netlist.evaluate.Goals as goal
use Rattle.netlist.proofs.netlist.Netlist.evaluate.Goals.{After-set_outputs}

filled-is : (c : After-set_outputs) → c.set_outputs.new.into ≡ filled c.args.self.now c.order-order.result.now c.args.free.now c.args.into.now
filled-is c =
    c.set_outputs.ensures
    ∙ rw (c.as_slice-3.ensures, c.tables.ensures, c.set_latches.ensures, c.as_slice-2.ensures, c.latches.ensures, c.set_inputs.ensures, c.split_at.ensures.front, c.split_at.ensures.back, c.as_slice.ensures, c.as_slice-inputs.ensures, c.inputs.ensures)
    (filled-from c.args.self.now c.order-order.result.now c.args.free.now c.args.into.now c.requires.free)

pub set_inputs-requires-clause-within : goal.set_inputs-requires-clause-within
set_inputs-requires-clause-within c = rw (c.as_slice-inputs.ensures, c.inputs.ensures, c.requires.room) c.facts.ensures.inputs

pub set_latches-requires-clause-within : goal.set_latches-requires-clause-within
set_latches-requires-clause-within c = rw (c.as_slice-2.ensures, c.latches.ensures, c.set_inputs.ensures, length-with_values, c.requires.room) c.facts.ensures.latches

pub set_outputs-requires-clause-inputs : goal.set_outputs-requires-clause-inputs
set_outputs-requires-clause-inputs c = rw (c.as_slice-3.ensures, c.tables.ensures, c.set_latches.ensures, length-with_values, c.set_inputs.ensures, length-with_values, c.requires.room) c.facts.ensures.sound.table_inputs

pub set_outputs-requires-clause-outputs : goal.set_outputs-requires-clause-outputs
set_outputs-requires-clause-outputs c = rw (c.as_slice-3.ensures, c.tables.ensures, c.set_latches.ensures, length-with_values, c.set_inputs.ensures, length-with_values, c.requires.room) c.facts.ensures.tables

pub returns-clause-filled : goal.returns-clause-filled
returns-clause-filled c = record {
  is = rw (filled-is c) (filled-valuation c.args.self.now c.order-order.result.now c.facts.ensures.sound c.order-order.ensures c.args.free.now c.args.into.now c.requires.room);
  has = rw (filled-is c) (filled-free c.args.self.now c.order-order.result.now c.facts.ensures.sound c.order-order.ensures c.args.free.now c.args.into.now c.requires.room c.requires.free);
}

pub returns-clause-only : goal.returns-clause-only
returns-clause-only c other is = one-valuation c.args.self.now c.order-order.result.now c.facts.ensures.sound c.order-order.ensures c.args.free.now other c.set_outputs.new.into is (returns-clause-filled c)
