use Rattle.vcd_reader.proofs.Unknowns.{same-reading, same-fault, reads-as-told, unknown-of-text, known-reads, unknown-reads}
use Rattle.vcd_reader.proofs.laws.unknown_law.Goals as goal

pub returns-clause-same : goal.returns-clause-same
returns-clause-same c = same-reading

pub returns-clause-fault : goal.returns-clause-fault
returns-clause-fault c = same-fault

pub returns-clause-told : goal.returns-clause-told
returns-clause-told c = reads-as-told

pub returns-clause-text : goal.returns-clause-text
returns-clause-text c = unknown-of-text

pub returns-clause-known : goal.returns-clause-known
returns-clause-known c = known-reads

pub returns-clause-unknown : goal.returns-clause-unknown
returns-clause-unknown c = unknown-reads
