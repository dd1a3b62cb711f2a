use Rattle.blif_flat.specs.Inputs.{number_in}
use Rattle.blif_flat.proofs.Made.{inputs-more}
use Rattle.blif_flat.proofs.flat.listed_inputs.Goals as goal

pub loop-item-preserved : goal.loop-item-preserved
loop-item-preserved c =
    inputs-more (number_in c.args.numbers.now) c.args.items.now c.loop-item.item-index c.item-item.result c.loop-item.inputs c.add_inputs.new.inputs
    c.inputs_at.result.now c.loop-item-test.true c.item-item.is c.loop-item.invariant c.inputs_at.ensures c.in_ok-add_inputs.ensures
