use Rattle.std.proofs.Common.{rules, ◌++◌, ◌∙◌, ap, sym, List, [], ℕ, get_or, slice_index_or}
use Rattle.sere_nfa.specs.declared.edge.NfaEdge.{NfaEdge}
use Rattle.sere_nfa.specs.declared.state.State.{State}
use Rattle.sere_nfa.specs.Marking.{sources_in}
use Rattle.sere_nfa.specs.Views.{edges_of}
use Rattle.sere_nfa.proofs.SourceLoops.{state-sources}
use Rattle.sere_nfa.proofs.sources.sources_of.Goals as goal

pub loop-number-preserved : goal.loop-number-preserved
loop-number-preserved c = record {
  len = search rules;
  each = λ t h. c.in_ok-add_sources.ensures.each t (search rules)
      ∙ (ap (λ (edges : List NfaEdge). slice_index_or c.loop-number.sources.items t [] ++ sources_in c.loop-number.number t (edges_of edges)) c.as_slice.ensures
      ∙ (ap (λ (state : State). slice_index_or c.loop-number.sources.items t [] ++ sources_in c.loop-number.number t (edges_of state.edges)) c.index-states-number.is
      ∙ (ap (λ (l : List ℕ). l ++ sources_in c.loop-number.number t (edges_of (get_or c.args.states.now c.loop-number.number c.index-states-number.result).edges)) (c.loop-number.invariant.each t h)
      ∙ sym (state-sources t c.args.states.now c.loop-number.number c.index-states-number.result (search rules)))));
}
