use Rattle.std.proofs.Common.{ap, sym, ◌∙◌, ◌++◌, ℕ, Bool, List, length}
use Rattle.trace.proofs.ForEver.{sized}
use Rattle.trace.proofs.Growing.{sampled-more}
use Rattle.trace.proofs.writing.add_samples.Goals as goal
use Rattle.trace.specs.Codes.{codes_of}
use Rattle.trace.specs.Trace.{valuation_in}
use Rattle.vcd_writer.specs.Lines.{value_lines}

pub add_values-requires : goal.add_values-requires
add_values-requires c =
    ap (λ (v : List Bool). length v) c.valuation_in.ensures ∙ sized c.args.netlist.now c.args.run.now c.requires c.loop-sample.sample ∙ sym c.signals.ensures

pub loop-sample-preserved : goal.loop-sample-preserved
loop-sample-preserved c =
    let signals = c.args.netlist.now.signals in
    sampled-more (codes_of signals) (valuation_in c.args.run.now) c.args.text.now.items c.loop-sample.text.items c.add_time.new.text.items c.add_values.new.text.items c.loop-sample.sample
    c.loop-sample.invariant c.in_ok-add_time.ensures
    (c.in_ok-add_values.ensures
    ∙ ap (λ (v : List Bool). c.add_time.new.text.items ++ value_lines (codes_of c.signals.result) v) c.valuation_in.ensures
    ∙ ap (λ (n : ℕ). c.add_time.new.text.items ++ value_lines (codes_of n) (valuation_in c.args.run.now c.loop-sample.sample)) c.signals.ensures)
