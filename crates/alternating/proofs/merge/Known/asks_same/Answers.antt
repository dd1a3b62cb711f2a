use Rattle.std.proofs.Common.{sym, ◌∙◌, get_or, arith}
use Rattle.std.proofs.lemmas.List.{get_or_default}
use Rattle.alternating_theory.specs.Merged.{class_in, supposed}
use Rattle.alternating.specs.Views.{obligations_of_code}
use Rattle.alternating.proofs.Merging.{like-shown, like-true}
use Rattle.alternating.proofs.merge.Known.asks_same.Goals as goal

pub returns-then-class_of-earlier : goal.returns-then-class_of-earlier
returns-then-class_of-earlier c =
    let os = c.args.self.now.obligations.now in
    let first = get_or os c.args.earlier c.index-self-earlier.result in
    let second = get_or os c.args.number c.index-self-number.result in
    like-true (obligations_of_code os) (class_in c.args.self.now.classes.now) c.args.earlier c.args.number c.same_obligation.result
    (sym c.class_of.ensures ∙ c.if-class_of-earlier.true)
    (like-shown os (supposed (class_in c.args.self.now.classes.now) c.args.number c.args.earlier) c.args.earlier c.args.number first second (omega arith) (omega arith)
    (get_or_default os c.args.earlier c.index-self-earlier.result first (omega arith)) (get_or_default os c.args.number c.index-self-number.result second (omega arith))
    c.same_obligation.result c.same_obligation.ensures)
