use Rattle.std.proofs.Common.{ap, Err, refl}
use Rattle.commands.proofs.Netlists.{IsFault, IsNetlist, netlist-fails, same-cause}
use Rattle.commands.proofs.Sources.{source-refused}
use Rattle.commands.proofs.Traces.{has-traces}
use Rattle.commands.proofs.inputs.load_netlist.Goals as goal
use Rattle.commands.specs.Diagnostics.{blif_diagnostic}
use Rattle.blif_model.specs.declared.fault.BlifFault.TheVariants.{ReadFault}

pub returns-in-Err-clause-stage : goal.returns-in-Err-clause-stage
returns-in-Err-clause-stage g c =
    source-refused blif_diagnostic IsNetlist IsFault c.args.name.now (g.F.Shelf.state c.args.files.now) (g.F.Shelf.state c.read_blif.new.shelf) c.read_blif.ensures.rest
    c.in-Err.fault c.fault_in.result
    (netlist-fails c.args.name.now (g.F.Shelf.state c.args.files.now) (g.F.Shelf.state c.read_blif.new.shelf) c.in-Err.fault c.in-Err.ensures.fault
    (λ e. c.in-Err.ensures.longer (ap Err e)) (λ e. c.in-Err.ensures.failed (ap Err e)) (λ e. c.in-Err.ensures.last (ap Err e)))
    (λ lt. ap (λ fault. (blif_diagnostic fault).reason) (same-cause c.in-Err.fault ReadFault (Err c.in-Err.fault) (Err ReadFault) refl refl (c.in-Err.ensures.counted lt)))
    c.blif_diagnostic.result c.blif_diagnostic.ensures c.fault_in.ensures

pub returns-in-Ok-clause-traces : goal.returns-in-Ok-clause-traces
returns-in-Ok-clause-traces g c =
    has-traces c.in-Ok.netlist c.soundness_law.ensures.sound c.in-Ok.ensures.plain c.in-Ok.ensures.few
