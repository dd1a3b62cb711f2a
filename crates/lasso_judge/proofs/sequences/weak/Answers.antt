use Rattle.std.proofs.Common.{refl, ◌-◌, sym, subst, Bool as Truth, List, length}
use Rattle.psl_tree.specs.Trees.{sequence_of}
use Rattle.psl_tree.specs.SequenceConstruction.{nfa_of}
use Rattle.lasso_judge.specs.Cells.{cell_of}
use Rattle.lasso_tables.specs.Tables.{value_at, Has}
use Rattle.lasso_judge.proofs.Starts.{starts-as, weak-tells}
use Rattle.lasso_judge.proofs.sequences.weak.Goals as goal

pub returns : goal.returns
returns c = weak-tells c.args.word.now c.args.flipped c.args.next.now c.requires.whole (sequence_of c.args.r.now) c.requires.plain (nfa_of (sequence_of c.args.r.now)) refl c.in_ok-chart.chart.nfa.states c.in_ok-chart.ensures.automaton
    c.in_ok-cells.cells.items c.deref-2.result.now c.in_ok-values.values.items c.in_ok-cells.ensures
    (subst (λ (fallen : List Truth). Has (length c.args.next.now) (λ p. value_at c.in_ok-cells.cells.items (cell_of (length c.in_ok-chart.chart.nfa.states) p (length c.in_ok-chart.chart.nfa.states - 1))) fallen)
    (sym c.deref-2.ensures.value)
    (starts-as (length c.args.next.now) (length c.in_ok-chart.chart.nfa.states) c.len.result c.in_ok-cells.cells.items c.deref.result.now c.in_ok-fallen.fallen.items
    c.len.ensures c.deref.ensures.value c.in_ok-fallen.ensures))
    c.in_ok-values.ensures
