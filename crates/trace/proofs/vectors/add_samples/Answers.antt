use Rattle.std.proofs.Common.{◌∙◌, ◌++◌, ◌∷◌, ap, Bool, List, length, append_assoc}
use Rattle.std.specs.Prelude.{decimal}
use Rattle.trace.proofs.Growing.{piece-more}
use Rattle.trace.proofs.vectors.add_samples.Goals as goal
use Rattle.trace.specs.Trace.{valuation_in}
use Rattle.trace.specs.Vectors.{vector_lines, vector_sample}
use Rattle.vcd_writer.specs.Lines.{line}

pub loop-sample-preserved : goal.loop-sample-preserved
loop-sample-preserved c =
    let vectors = c.args.vectors.now in
    let sample = c.loop-sample.sample in
    piece-more (vector_sample vectors c.args.run.now) c.args.text.now.items c.loop-sample.text.items c.add_values.new.text.items sample c.loop-sample.invariant
    (c.in_ok-add_values.ensures
    ∙ ap (λ (v : List Bool). c.add_time.new.text.items ++ vector_lines vectors v (length vectors)) c.valuation_in.ensures
    ∙ ap (λ t. t ++ vector_lines vectors (valuation_in c.args.run.now sample) (length vectors)) c.in_ok-add_time.ensures
    ∙ append_assoc c.loop-sample.text.items (line (35 ∷ decimal sample)) (vector_lines vectors (valuation_in c.args.run.now sample) (length vectors)))
