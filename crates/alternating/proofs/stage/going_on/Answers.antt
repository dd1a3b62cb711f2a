use Rattle.std.proofs.Common.{rules, ◌∙◌, ap, List}
use Rattle.psl_tree.specs.SequenceAutomata.{Edge, State}
use Rattle.sere_nfa.specs.Views.{edges_of}
use Rattle.sere_nfa.specs.declared.edge.NfaEdge.{NfaEdge}
use Rattle.alternating_theory.specs.Going.{goes_on}
use Rattle.alternating.proofs.Edges.{row-more}
use Rattle.alternating.proofs.stage.going_on.Goals as goal

pub loop-state-preserved : goal.loop-state-preserved
loop-state-preserved c =
    row-more (λ (state : State). goes_on c.args.nfa.now.states state.edges) c.args.nfa.now.states c.loop-state.state (search rules)
    c.loop-state.ongoing c.push.new.self c.goes_on.result c.loop-state.invariant c.in_ok-push.ensures.ok
    (c.goes_on.ensures ∙ ap (λ (l : List NfaEdge). goes_on c.args.nfa.now.states (edges_of l)) c.as_slice.ensures
    ∙ ap (λ (l : List Edge). goes_on c.args.nfa.now.states l) c.edges.ensures.shown)
