use Rattle.vcd_reader.proofs.Joining.{says_recording, says_fault}
use Rattle.vcd_reader.proofs.laws.running_law.Goals as goal

pub returns-clause-recording : goal.returns-clause-recording
returns-clause-recording c = says_recording

pub returns-clause-fault : goal.returns-clause-fault
returns-clause-fault c = says_fault
