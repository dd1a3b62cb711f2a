use Rattle.psl_layer_theory.proofs.ExamplesHold.{too_wide, range_falls, buses, comparison}
use Rattle.psl_layer_theory.proofs.laws.worked_examples.Goals as goal

pub returns-clause-too_wide : goal.returns-clause-too_wide
returns-clause-too_wide c = too_wide

pub returns-clause-range_falls : goal.returns-clause-range_falls
returns-clause-range_falls c = range_falls

pub returns-clause-buses : goal.returns-clause-buses
returns-clause-buses c = buses

pub returns-clause-comparison : goal.returns-clause-comparison
returns-clause-comparison c = comparison
