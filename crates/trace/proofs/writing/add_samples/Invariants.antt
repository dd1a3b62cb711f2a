use Rattle.std.proofs.Common.{◌≡◌, ◌++◌}
use Rattle.trace.proofs.writing.add_samples.Given as goal
use Rattle.trace.specs.Codes.{codes_of}
use Rattle.trace.specs.Trace.{valuation_in}
use Rattle.vcd_writer.specs.Lines.{samples_from}

abbrev pub invariant-loop-sample : goal.invariant-loop-sample
invariant-loop-sample l = l.text.items ≡ l.fn.text.items ++ samples_from (codes_of l.netlist.signals) (valuation_in l.run) 0 l.sample
