use Rattle.psl_tree.specs.Trees.{formula_of}
use Rattle.trace_judge.proofs.ReadBack.{in-trace}
use Rattle.trace_judge.proofs.Traces.{samples-are, trace-verdict}
use Rattle.trace_judge.proofs.judging.judged.Goals as goal

pub verdict_on-requires-clause-in_range : goal.verdict_on-requires-clause-in_range
verdict_on-requires-clause-in_range c =
    rw c.in_ok-recording.ensures (in-trace c.args.traced.netlist.now c.soundness_law.ensures.sound (formula_of c.args.directive.now.formula) c.requires.in_range)

pub returns : goal.returns
returns c = record {
  text = c.in_ok-text.ensures;
  samples = rw (c.samples.ensures.count, c.in_ok-recording.ensures) (samples-are c.args.traced.netlist.now c.args.traced.run.now c.args.traced.loops);
  verdict = trace-verdict c.args.traced.netlist.now c.args.traced.run.now c.args.traced.loops c.args.directive.now c.in_ok-verdict.verdict c.soundness_law.ensures.sound c.requires.readable.is
      (rw c.in_ok-recording.ensures at c.in_ok-verdict.ensures);
}
