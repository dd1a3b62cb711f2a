use Rattle.std.proofs.Common.{ap, ◌∙◌, ◌≡◌, ℕ, ◌+◌, ◌-◌, ◌≤◌, length, sym, subst, arith}
use Rattle.trace.proofs.Sizes.{none-from, past-stays, sample-within, samples-rise}
use Rattle.trace.proofs.lengths.first_samples.Goals as goal
use Rattle.trace.specs.Codes.{codes_of}
use Rattle.trace.specs.Lengths.{plus, values_size, within}
use Rattle.trace.specs.Trace.{valuation_in}
use Rattle.vcd_writer.specs.Lines.{samples_from}

pub returns-then-is_none : goal.returns-then-is_none
returns-then-is_none c =
    let design = c.args.netlist.now in
    let run = c.args.run.now in
    let most = c.args.most in
    let sample = c.loop-sample.sample in
    let text = samples_from (codes_of design.signals) (valuation_in run) 0 in
    let gap = c.args.count - (sample + 1) in
    let there : sample + 1 + gap ≡ c.args.count = omega (arith, c.loop-sample-test.true) in
    let sum = sample-within design run c.requires most sample c.loop-sample.sum c.time_length.result c.values_length-values.result c.plus-sum.result c.loop-sample.invariant c.time_length.ensures
    (c.values_length-values.ensures ∙ ap (λ (n : ℕ). within most (values_size (codes_of n))) c.signals.ensures) (c.plus-sum.ensures ∙ ap (plus most c.loop-sample.sum) c.plus.ensures) in
    let none = none-from c.plus-sum.result (grind (arith, c.is_none.ensures, c.if-is_none.true)) in
    sym (past-stays most (length (text (sample + 1))) (length (text c.args.count)) (sym sum ∙ none)
    (subst (λ (n : ℕ). length (text (sample + 1)) ≤ length (text n)) there (samples-rise design run c.requires (sample + 1) gap)))

pub loop-sample-preserved : goal.loop-sample-preserved
loop-sample-preserved c =
    let design = c.args.netlist.now in
    let most = c.args.most in
    sample-within design c.args.run.now c.requires most c.loop-sample.sample c.loop-sample.sum c.time_length.result c.values_length-values.result c.plus-sum.result c.loop-sample.invariant c.time_length.ensures
    (c.values_length-values.ensures ∙ ap (λ (n : ℕ). within most (values_size (codes_of n))) c.signals.ensures) (c.plus-sum.ensures ∙ ap (plus most c.loop-sample.sum) c.plus.ensures)
