use Rattle.vcd_writer.proofs.Accepting.{accepted}
use Rattle.vcd_writer.proofs.accepted.Goals as goal

pub returns : goal.returns
returns c = accepted
