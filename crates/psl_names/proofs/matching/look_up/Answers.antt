use Rattle.std.proofs.Common.{◌∙◌}
use Rattle.psl_names.proofs.Gathered.{looked-through}
use Rattle.psl_names.proofs.matching.look_up.Goals as goal

pub returns : goal.returns
returns c = c.chosen.ensures
    ∙ looked-through c.as_slice-all.result.now c.args.names.now c.args.text.now c.loop-name.named c.loop-name.ending c.loop-name.name-index c.as_slice-all.ensures c.loop-name-test.false
    c.loop-name.invariant.named c.loop-name.invariant.ending
