use Rattle.std.proofs.Common.{take}
use Rattle.psl_layer_theory.specs.Directives.{asked_in_units}
use Rattle.psl_layer_theory.specs.Flaws.{units_flaws}
use Rattle.psl_layer.proofs.Whole.{unit_found}
use Rattle.psl_layer.proofs.texts.units_outcome.Goals as goal

pub loop-unit-preserved : goal.loop-unit-preserved
loop-unit-preserved c =
    let before = take c.loop-unit.unit-index c.args.units.now in
    unit_found c.args.names.now c.args.units.now c.loop-unit.unit-index c.unit-item.result c.as_slice.result.now c.in_ok-outcome.outcome c.unit-item.is c.loop-unit-test.true c.as_slice.ensures
    (c.in_ok-outcome.ensures (units_flaws c.args.names.now before) (asked_in_units c.args.names.now before) c.loop-unit.invariant)
