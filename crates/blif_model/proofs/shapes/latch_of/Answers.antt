use Rattle.std.proofs.Common.{ap, ◌∙◌, arith, refl}
use Rattle.std.specs.Option.{option_map}
use Rattle.blif_model.specs.Shapes.{init_of}
use Rattle.blif_model.specs.Words.{latch_in}
use Rattle.blif_model.proofs.Latches.{latch_of_five}
use Rattle.blif_model.proofs.shapes.latch_of.Goals as goal

pub returns-in-len5-clause-latch : goal.returns-in-len5-clause-latch
returns-in-len5-clause-latch c =
    ap (option_map (latch_in c.args.whole.now)) (c.timed-in-len5.ensures ∙ rw c.plain-latch-in-len5.ensures refl)
    ∙ latch_of_five c.args.whole.now c.args.words.now c.init_of-in-len5.result (omega arith) (c.init_of-in-len5.ensures ∙ ap init_of c.text_of-in-len5.ensures)
