use Rattle.trace.proofs.Growing.{piece-more}
use Rattle.trace.proofs.vectors.add_values.Goals as goal
use Rattle.trace.specs.Vectors.{vector_line}

pub loop-number-preserved : goal.loop-number-preserved
loop-number-preserved c =
    piece-more (vector_line c.args.vectors.now c.args.values.now) c.args.text.now.items c.loop-number.text.items c.add_value.new.text.items c.loop-number.number c.loop-number.invariant
    c.in_ok-add_value.ensures
