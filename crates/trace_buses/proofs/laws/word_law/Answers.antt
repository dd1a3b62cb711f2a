use Rattle.trace_buses.proofs.Following.{buses-follow}
use Rattle.trace_buses.proofs.Letters.{letters-follow}
use Rattle.trace_buses.proofs.laws.word_law.Goals as goal
use Rattle.trace_buses.specs.Buses.{buses_sampled}
use Rattle.vcd_reader.specs.declared.unknown.Unknown.TheVariants.{Zero}

pub returns : goal.returns
returns c design run loops sound is plain = letters-follow design run loops (buses_sampled Zero design run loops) sound is (buses-follow design run loops is plain)
