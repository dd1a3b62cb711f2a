use Rattle.std.proofs.Common.{◌≡◌, ◌∙◌, ◌<◌, ap, subst, sym, arith, length}
use Rattle.std.proofs.lemmas.List.{length-map}
use Rattle.psl_tree.specs.SequenceAutomata.{Automaton, State, state_at}
use Rattle.lasso_judge.specs.MergedView.{shown_of, states_shown}
use Rattle.lasso_judge.specs.declared.merged.MergedState.{MergedState}
use Rattle.lasso_judge.proofs.Merging.{shown-merged}
use Rattle.lasso_judge.proofs.merged.Merged.is_final.Goals as goal

pub returns : goal.returns
returns c =
    let small : c.args.state < length (states_shown c.self.inside.states.items) = subst (λ (a : Automaton). c.args.state < length a.states) (sym c.self.view_is) c.requires in
    let here : shown_of c.index-found.result.now ≡ state_at (states_shown c.self.inside.states.items) c.args.state =
    ap (λ (s : MergedState). shown_of s) c.index-found.ensures
    ∙ shown-merged c.self.inside.states.items c.args.state c.index-found.result.now (omega (arith, small, length-map c.self.inside.states.items shown_of)) in
    ap (λ (s : State). s.is_final) here ∙ ap (λ (a : Automaton). (state_at a.states c.args.state).is_final) c.self.view_is
