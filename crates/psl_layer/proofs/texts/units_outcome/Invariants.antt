use Rattle.std.proofs.Common.{take}
use Rattle.psl_layer_theory.specs.Directives.{asked_in_units}
use Rattle.psl_layer_theory.specs.Flaws.{units_flaws}
use Rattle.psl_layer.specs.Outcomes.{IsOutcome}
use Rattle.psl_layer.proofs.texts.units_outcome.Given as goal

abbrev pub invariant-loop-unit : goal.invariant-loop-unit
invariant-loop-unit l = IsOutcome (units_flaws l.names (take l.unit-index l.units)) (asked_in_units l.names (take l.unit-index l.units)) l.outcome
