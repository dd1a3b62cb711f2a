use Rattle.std.proofs.Common.{rules, ◌∙◌, ◌+◌, true, ap, List}
use Rattle.psl_tree.specs.SequenceAutomata.{Edge, State}
use Rattle.sere_nfa.specs.Views.{edges_of}
use Rattle.sere_nfa.specs.declared.edge.NfaEdge.{NfaEdge}
use Rattle.alternating_theory.specs.Construction.{suffix_obligation}
use Rattle.alternating.specs.Pending.{pendings_of}
use Rattle.alternating.specs.Views.{obligation_of}
use Rattle.alternating.proofs.Edges.{obligation-more}
use Rattle.alternating.proofs.suffix.suffix.Goals as goal

pub loop-state-preserved : goal.loop-state-preserved
loop-state-preserved c =
    obligation-more (λ (state : State). suffix_obligation c.args.nfa.now.states (c.args.offset + c.len.result) true (obligation_of c.in_ok-follows.follows) state.edges) c.args.nfa.now.states c.loop-state.state (search rules)
    (pendings_of c.args.part.rest.items)
    c.loop-state.rest.items c.add.new.obligations.items c.new.result c.in_ok-new.new c.loop-state.invariant c.in_ok-add.ensures c.new.ensures
    (c.in_ok-new.ensures
    ∙ ap (λ (l : List NfaEdge). suffix_obligation c.args.nfa.now.states (c.args.offset + c.len.result) true (obligation_of c.in_ok-follows.follows) (edges_of l)) c.as_slice-edges-in-loop-state.ensures
    ∙ ap (λ (l : List Edge). suffix_obligation c.args.nfa.now.states (c.args.offset + c.len.result) true (obligation_of c.in_ok-follows.follows) l) c.edges.ensures.shown)
