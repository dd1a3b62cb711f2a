use Rattle.psl_layer_theory.specs.Answers.{IsUnit, IsLayerFault}
use Rattle.commands.proofs.Reasons.{layer-text}
use Rattle.commands.proofs.Staging.{told-fails}
use Rattle.commands.proofs.directives.directives.Goals as goal
use Rattle.commands.specs.Diagnostics.{layer_diagnostic}

pub returns-in-Err-clause-reading : goal.returns-in-Err-clause-reading
returns-in-Err-clause-reading c =
    told-fails c.args.unit.now layer_diagnostic (IsUnit c.args.tree.now c.args.names.now) (IsLayerFault c.args.tree.now c.args.names.now) c.in-Err.fault c.fault_in.result
    c.layer_diagnostic.result c.in-Err.ensures.fault (layer-text c.in-Err.fault) c.layer_diagnostic.ensures c.fault_in.ensures
