use Rattle.std.proofs.Common.{◌≡◌, ◌∙◌, ◌<◌, ap, subst, sym, arith, length}
use Rattle.std.proofs.lemmas.List.{length-map}
use Rattle.psl_tree.specs.SequenceAutomata.{Automaton, State, state_at}
use Rattle.sere_nfa.specs.Views.{state_of, states_of_code}
use Rattle.sere_nfa.specs.declared.state.State as code_state
use Rattle.sere_nfa.proofs.Shown.{shown-state}
use Rattle.sere_nfa.proofs.nfa.Nfa.is_final.Goals as goal

pub returns : goal.returns
returns c =
    let small : c.args.state < length (states_of_code c.self.inside.states.items) = subst (λ (a : Automaton). c.args.state < length a.states) (sym c.self.view_is) c.requires in
    let here : state_of c.index-found.result.now ≡ state_at (states_of_code c.self.inside.states.items) c.args.state =
    ap (λ (s : code_state.State). state_of s) c.index-found.ensures
    ∙ shown-state c.self.inside.states.items c.args.state c.index-found.result.now (omega (arith, small, length-map c.self.inside.states.items state_of)) in
    ap (λ (s : State). s.is_final) here ∙ ap (λ (a : Automaton). (state_at a.states c.args.state).is_final) c.self.view_is
