use Rattle.std.proofs.Common.{◌∙◌, sym, length}
use Rattle.std.proofs.lemmas.List.{length-map}
use Rattle.sere_nfa.specs.Views.{edge_of, edges_of}
use Rattle.lasso_tables.specs.Seen.{seen_at}
use Rattle.lasso_judge.proofs.Passed.{passed_ends}
use Rattle.lasso_judge.proofs.lasts.first_along.Goals as goal

pub returns-clause-goes : goal.returns-clause-goes
returns-clause-goes c = passed_ends c.args.charted.chart.now.nfa.states (seen_at c.args.charted.word.now c.args.charted.flipped c.args.place) c.args.marks.now c.args.first (edges_of c.args.edges.now)
    c.loop-number.number (length c.args.edges.now) (sym (length-map c.args.edges.now edge_of)) c.loop-number.invariant (sym c.is_idle.ensures ∙ c.loop-number-test.false)
