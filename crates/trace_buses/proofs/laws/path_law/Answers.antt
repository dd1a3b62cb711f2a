use Rattle.netlist.proofs.Walking.{run-made}
use Rattle.replay.proofs.Paths.{path-answered}
use Rattle.trace_buses.proofs.Following.{buses-follow}
use Rattle.trace_buses.proofs.laws.path_law.Goals as goal
use Rattle.trace_buses.specs.Buses.{buses_sampled}
use Rattle.vcd_reader.specs.declared.unknown.Unknown.TheVariants.{Zero}

pub returns : goal.returns
returns c run loops result is plain =
    let design = c.args.netlist.now in
    path-answered design c.soundness_law.ensures.sound c.one_valuation_law.ensures.one run loops (buses_sampled Zero design run loops) result is
    (buses-follow design run loops (run-made design run is) plain)
