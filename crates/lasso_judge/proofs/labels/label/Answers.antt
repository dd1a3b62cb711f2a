use Rattle.std.proofs.Common.{ap, length, List, arith}
use Rattle.std.proofs.lemmas.List.{length-map}
use Rattle.psl_tree.specs.SequenceAutomata.{Edge}
use Rattle.sere_nfa.specs.Views.{edge_of}
use Rattle.sere_nfa.specs.declared.edge.NfaEdge.{NfaEdge}
use Rattle.lasso_judge.proofs.Drawn.{taken}
use Rattle.lasso_judge.proofs.labels.label.Goals as goal

pub overflow_cast-arrow : goal.overflow_cast-arrow
overflow_cast-arrow c =
    let r = taken c.args.chart.now.nfa.states c.args.chart.now.arrows.items c.requires.drawn.real c.args.number c.index-arrow.result.now c.requires.arrow c.index-arrow.ensures in
    omega (arith, r.state_below, c.requires.drawn.few_states)

pub bounds-edges-arrow : goal.bounds-edges-arrow
bounds-edges-arrow c =
    let r = taken c.args.chart.now.nfa.states c.args.chart.now.arrows.items c.requires.drawn.real c.args.number c.index-arrow.result.now c.requires.arrow c.index-arrow.ensures in
    omega (arith, r.edge_below, ap (λ (es : List Edge). length es) c.edges.ensures.shown, length-map c.edges.result.now edge_of, ap (λ (es : List NfaEdge). length es) c.as_slice-edges.ensures)
