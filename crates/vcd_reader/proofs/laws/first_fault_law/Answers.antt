use Rattle.vcd_reader.proofs.Firsts.{faultless-reading, reading-faultless, first-reading, reading-first}
use Rattle.vcd_reader.proofs.laws.first_fault_law.Goals as goal

pub returns-clause-recording : goal.returns-clause-recording
returns-clause-recording c = faultless-reading

pub returns-clause-faultless : goal.returns-clause-faultless
returns-clause-faultless c = reading-faultless

pub returns-clause-fault : goal.returns-clause-fault
returns-clause-fault c = first-reading

pub returns-clause-first : goal.returns-clause-first
returns-clause-first c = reading-first
