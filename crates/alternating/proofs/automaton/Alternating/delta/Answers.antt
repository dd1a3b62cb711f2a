use Rattle.std.proofs.Common.{◌≡◌, ◌∙◌, ◌<◌, ap, subst, sym, arith, length}
use Rattle.std.proofs.lemmas.List.{length-map}
use Rattle.alternating_theory.specs.Obligations.{Automaton, Obligation, obligation_at}
use Rattle.alternating.specs.Views.{obligation_of, obligations_of_code}
use Rattle.alternating.specs.declared.obligation.Obligation as code_obligation
use Rattle.alternating.proofs.Shown.{shown-obligation}
use Rattle.alternating.proofs.automaton.Alternating.delta.Goals as goal

pub returns-clause-shown : goal.returns-clause-shown
returns-clause-shown c =
    let small : c.args.q < length (obligations_of_code c.self.inside.obligations.items) = subst (λ (a : Automaton). c.args.q < length a.obligations) (sym c.self.view_is) c.requires in
    let here : obligation_of c.index-found.result.now ≡ obligation_at (obligations_of_code c.self.inside.obligations.items) c.args.q =
    ap (λ (o : code_obligation.Obligation). obligation_of o) c.index-found.ensures
    ∙ shown-obligation c.self.inside.obligations.items c.args.q c.index-found.result.now (omega (arith, small, length-map c.self.inside.obligations.items obligation_of)) in
    ap (λ (o : Obligation). o.delta) here ∙ ap (λ (a : Automaton). (obligation_at a.obligations c.args.q).delta) c.self.view_is
