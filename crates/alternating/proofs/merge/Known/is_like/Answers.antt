use Rattle.std.proofs.Common.{◌∙◌, get_or, arith}
use Rattle.std.proofs.lemmas.Bool.{ne_eqb}
use Rattle.alternating_theory.specs.Merged.{class_in}
use Rattle.alternating.proofs.Merging.{unlike}
use Rattle.alternating.proofs.merge.Known.is_like.Goals as goal

pub returns-else-self-earlier : goal.returns-else-self-earlier
returns-else-self-earlier c =
    ne_eqb (get_or c.args.self.now.sizes.now c.args.earlier 0) (get_or c.args.self.now.sizes.now c.args.number 0) c.if-self-earlier.false
    ∙ unlike c.args.self.now.obligations.now c.args.self.now.sizes.now (class_in c.args.self.now.classes.now) c.args.earlier c.args.number c.requires.sizes (omega arith) (omega arith)
    c.if-self-earlier.false
