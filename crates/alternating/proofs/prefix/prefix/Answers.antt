use Rattle.std.proofs.Common.{rules, ◌∙◌, ap, List, []}
use Rattle.psl_tree.specs.SequenceAutomata.{Edge, State}
use Rattle.sere_nfa.specs.Views.{edges_of}
use Rattle.sere_nfa.specs.declared.edge.NfaEdge.{NfaEdge}
use Rattle.alternating_theory.specs.Construction.{prefix_obligation}
use Rattle.alternating.proofs.Edges.{obligation-more}
use Rattle.alternating.proofs.prefix.prefix.Goals as goal

pub loop-state-preserved : goal.loop-state-preserved
loop-state-preserved c =
    obligation-more (λ (state : State). prefix_obligation c.args.stage.now.nfa.now.states c.args.stage.now.offset c.args.end state.edges) c.args.stage.now.nfa.now.states c.loop-state.state (search rules) []
    c.loop-state.rest.items c.add.new.obligations.items c.new.result c.in_ok-new.new c.loop-state.invariant c.in_ok-add.ensures c.new.ensures
    (c.in_ok-new.ensures
    ∙ ap (λ (l : List NfaEdge). prefix_obligation c.args.stage.now.nfa.now.states c.args.stage.now.offset c.args.end (edges_of l)) c.as_slice-edges-in-loop-state.ensures
    ∙ ap (λ (l : List Edge). prefix_obligation c.args.stage.now.nfa.now.states c.args.stage.now.offset c.args.end l) c.edges.ensures.shown)
