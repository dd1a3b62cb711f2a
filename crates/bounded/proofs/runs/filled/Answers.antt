use Rattle.bounded.proofs.runs.filled.Goals as goal

pub returns : goal.returns
returns c =
    c.filled_law.ensures c.args.netlist.now c.soundness_law.ensures.ordered.0 c.args.free.now c.evaluate.new.into c.soundness_law.ensures.sound c.soundness_law.ensures.ordered.1 c.evaluate.ensures.filled
