use Rattle.vcd_reader.proofs.Joining.{times-counted, later-higher}
use Rattle.vcd_reader.proofs.laws.times_law.Goals as goal

pub returns-clause-each : goal.returns-clause-each
returns-clause-each c = times-counted

pub returns-clause-rise : goal.returns-clause-rise
returns-clause-rise c = later-higher
