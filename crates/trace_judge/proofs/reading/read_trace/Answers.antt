use Rattle.trace_judge.proofs.ReadBack.{read-trace, trace-faultless}
use Rattle.trace_judge.proofs.reading.read_trace.Goals as goal

pub read_faultless-requires-clause-faultless : goal.read_faultless-requires-clause-faultless
read_faultless-requires-clause-faultless c =
    trace-faultless c.args.text c.args.traced.netlist.now c.args.traced.run.now c.args.traced.loops c.requires.text c.requires.readable

pub returns : goal.returns
returns c = read-trace c.args.text c.args.traced.netlist.now c.args.traced.run.now c.args.traced.loops c.in_ok-recording.recording c.requires.text c.requires.readable
    c.in_ok-recording.ensures
