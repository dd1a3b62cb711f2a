use Rattle.replay.proofs.Paths.{path-answered, trace-follows}
use Rattle.replay.proofs.laws.path_law.Goals as goal
use Rattle.trace.specs.Trace.{trace_sampled}
use Rattle.vcd_reader.specs.declared.unknown.Unknown.TheVariants.{Zero}

pub returns : goal.returns
returns c run loops result is plain =
    let design = c.args.netlist.now in
    path-answered design c.soundness_law.ensures.sound c.one_valuation_law.ensures.one run loops (trace_sampled Zero design run loops) result is (trace-follows design run loops plain)
