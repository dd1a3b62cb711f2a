use Rattle.std.proofs.Common.{sym, ◌∙◌}
use Rattle.alternating_theory.specs.Merged.{class_in, is_like}
use Rattle.alternating.specs.Views.{obligations_of_code}
use Rattle.alternating.proofs.Merging.{first-later}
use Rattle.alternating.proofs.merge.Known.first_like.Goals as goal

pub loop-earlier-preserved : goal.loop-earlier-preserved
loop-earlier-preserved c =
    first-later c.loop-earlier.earlier c.args.number (λ earlier. is_like (obligations_of_code c.args.self.now.obligations.now) (class_in c.args.self.now.classes.now) earlier c.args.number)
    c.loop-earlier-test.true c.loop-earlier.invariant (sym c.is_like.ensures ∙ c.if-is_like.false)
