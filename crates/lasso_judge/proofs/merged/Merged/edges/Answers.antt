use Rattle.std.proofs.Common.{◌≡◌, ◌∙◌, ◌<◌, ap, subst, sym, arith, length, All}
use Rattle.std.proofs.lemmas.List.{length-map}
use Rattle.psl_tree.specs.SequenceAutomata.{Automaton, State, LeadsWithin, state_at}
use Rattle.sere_nfa.specs.declared.edge.NfaEdge.{NfaEdge}
use Rattle.sere_nfa.proofs.Shown.{edges-below}
use Rattle.lasso_judge.specs.MergedView.{shown_of, states_shown}
use Rattle.lasso_judge.specs.declared.merged.MergedState.{MergedState}
use Rattle.lasso_judge.proofs.Merging.{shown-merged}
use Rattle.lasso_judge.proofs.merged.Merged.edges.Goals as goal

-- the state that was read is the automaton's
here : (c : goal.After-index-found) → shown_of c.index-found.result.now ≡ (state_at (states_shown c.self.inside.states.items) c.args.state)
here c =
    let small : c.args.state < length (states_shown c.self.inside.states.items) = subst (λ (a : Automaton). c.args.state < length a.states) (sym c.self.view_is) c.requires in
    ap (λ (s : MergedState). shown_of s) c.index-found.ensures
    ∙ shown-merged c.self.inside.states.items c.args.state c.index-found.result.now (omega (arith, small, length-map c.self.inside.states.items shown_of))

pub returns-clause-shown : goal.returns-clause-shown
returns-clause-shown c =
    ap (λ (s : State). s.edges) (here c) ∙ ap (λ (a : Automaton). (state_at a.states c.args.state).edges) c.self.view_is

pub returns-clause-below : goal.returns-clause-below
returns-clause-below c =
    subst (λ (a : Automaton). All (λ (edge : NfaEdge). edge.target < length a.states) c.index-found.result.now.edges) c.self.view_is
    (edges-below 0 (length (states_shown c.self.inside.states.items)) c.index-found.result.now.edges
    (subst (λ (s : State). LeadsWithin 0 (length (states_shown c.self.inside.states.items)) s.edges) (sym (here c)) (c.self.invariant.sound.targets_below c.args.state)))
