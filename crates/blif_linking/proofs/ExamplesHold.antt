-- The worked examples hold, by computing.
use Rattle.std.proofs.Common.{refl}
use Rattle.blif_flattening.specs.Hierarchy.{flat_lines}
use Rattle.blif_flattening.specs.Listing.{instances}
use Rattle.blif_flat.specs.Flat.{flat_design}
use Rattle.blif_linking.specs.Examples.{TurningIsLinked, TurningIsNamed, TurningIsFlat, ActualsAreNames, NoSuchModel, NoModelNamed, NoEquals, NoFormal, FormalTwice, InputMissing, DrivenByBoth, InputsDriveNothing, ActualUndriven, OutputUndriven}

pub turning_is_linked : TurningIsLinked
turning_is_linked = refl

pub turning_is_named : TurningIsNamed
turning_is_named = refl

pub turning_is_flat : TurningIsFlat
unfolding flat_design flat_lines instances
turning_is_flat = refl

pub actuals_are_names : ActualsAreNames
actuals_are_names = refl

pub no_such_model : NoSuchModel
no_such_model = refl

pub no_model_named : NoModelNamed
no_model_named = refl

pub no_equals : NoEquals
no_equals = refl

pub no_formal : NoFormal
no_formal = refl

pub formal_twice : FormalTwice
formal_twice = refl

pub input_missing : InputMissing
input_missing = refl

pub driven_by_both : DrivenByBoth
driven_by_both = refl

pub inputs_drive_nothing : InputsDriveNothing
inputs_drive_nothing = refl

pub actual_undriven : ActualUndriven
actual_undriven = refl

pub output_undriven : OutputUndriven
output_undriven = refl

pub ruleset links = (turning_is_linked, turning_is_named, turning_is_flat, actuals_are_names, no_such_model, no_model_named, no_equals, no_formal, formal_twice, input_missing, driven_by_both, inputs_drive_nothing, actual_undriven, output_undriven)
