use Rattle.std.proofs.Common.{ap, Err, refl}
use Rattle.commands.proofs.Recordings.{IsFault, IsRecording, recording-fails, same-cause}
use Rattle.commands.proofs.Sources.{source-refused}
use Rattle.commands.proofs.inputs.load_recording.Goals as goal
use Rattle.commands.specs.Diagnostics.{vcd_diagnostic}
use Rattle.vcd_reader.specs.declared.fault.VcdFault.TheVariants.{ReadFault}

pub returns-in-Err : goal.returns-in-Err
returns-in-Err g c =
    source-refused vcd_diagnostic (IsRecording c.args.unknown) (IsFault c.args.unknown) c.args.name.now (g.F.Shelf.state c.args.files.now) (g.F.Shelf.state c.read_vcd.new.shelf) c.read_vcd.ensures.rest
    c.in-Err.fault c.fault_in.result
    (recording-fails c.args.unknown c.args.name.now (g.F.Shelf.state c.args.files.now) (g.F.Shelf.state c.read_vcd.new.shelf) c.in-Err.fault c.in-Err.ensures.fault
    (λ e. c.in-Err.ensures.longer (ap Err e)) (λ e. c.in-Err.ensures.failed (ap Err e)) (λ e. c.in-Err.ensures.last (ap Err e)))
    (λ lt. ap (λ fault. (vcd_diagnostic fault).reason) (same-cause c.in-Err.fault ReadFault (Err c.in-Err.fault) (Err ReadFault) refl refl (c.in-Err.ensures.counted lt)))
    c.vcd_diagnostic.result c.vcd_diagnostic.ensures c.fault_in.ensures
