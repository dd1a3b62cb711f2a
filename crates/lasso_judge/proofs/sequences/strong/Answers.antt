use Rattle.std.proofs.Common.{refl, sym, subst, Bool as Truth, true, List, length}
use Rattle.psl_tree.specs.Trees.{sequence_of}
use Rattle.psl_tree.specs.SequenceConstruction.{nfa_of}
use Rattle.lasso_tables.specs.Tables.{Has}
use Rattle.lasso_judge.proofs.Starts.{starts-as, strong-tells}
use Rattle.lasso_judge.proofs.sequences.strong.Goals as goal

pub returns : goal.returns
returns c = strong-tells c.args.word.now c.args.flipped c.args.next.now c.requires.whole (sequence_of c.args.r.now) c.requires.plain (nfa_of (sequence_of c.args.r.now)) refl c.in_ok-chart.chart.nfa.states c.in_ok-chart.ensures.automaton
    c.deref.result.now c.in_ok-cells.cells.items c.in_ok-values.values.items
    (subst (λ (hits : List Truth). Has (length c.args.next.now) (λ _. true) hits) (sym c.deref.ensures.value) c.in_ok-hits.ensures)
    c.in_ok-cells.ensures
    (starts-as (length c.args.next.now) (length c.in_ok-chart.chart.nfa.states) c.len.result c.in_ok-cells.cells.items c.deref-2.result.now c.in_ok-values.values.items
    c.len.ensures c.deref-2.ensures.value c.in_ok-values.ensures)
