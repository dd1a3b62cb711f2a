use Rattle.std.proofs.Common.{◌∙◌, ap, List, length}
use Rattle.sere_nfa.specs.Views.{edges_of}
use Rattle.sere_nfa.specs.declared.edge.NfaEdge.{NfaEdge}
use Rattle.lasso_tables.specs.Seen.{seen_at}
use Rattle.lasso_judge.proofs.Drawn.{cell-state}
use Rattle.lasso_judge.proofs.Labelled.{edges-told}
use Rattle.lasso_judge.proofs.hits.ends_here.Goals as goal

pub ends_by-requires-clause-told : goal.ends_by-requires-clause-told
ends_by-requires-clause-told c = edges-told (λ place. seen_at c.args.charted.word.now c.args.charted.flipped place) c.args.charted.chart.now _ c.as_slice.result.now c.requires.labels
    (cell-state c.args.cell (length c.args.charted.chart.now.nfa.states) c.len-states.result c.len-states.ensures c.requires.chart.some)
    (ap (λ (es : List NfaEdge). edges_of es) c.as_slice.ensures ∙ c.edges-edges.ensures.shown)
