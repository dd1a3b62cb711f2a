use Rattle.std.proofs.Common.{refl, ◌-◌, sym, subst, Bool as Truth, List, length}
use Rattle.std.specs.Prelude.{not}
use Rattle.psl_tree.specs.Trees.{sequence_of}
use Rattle.psl_tree.specs.SequenceConstruction.{nfa_of}
use Rattle.lasso_judge.specs.Cells.{cell_of}
use Rattle.lasso_tables.specs.Tables.{value_at, Has}
use Rattle.lasso_judge.proofs.Starts.{starts-as, suffix-tells}
use Rattle.lasso_judge.proofs.sequences.suffix.Goals as goal

pub returns : goal.returns
returns c = suffix-tells c.args.word.now c.args.flipped c.args.next.now c.requires.whole (sequence_of c.args.r.now) c.requires.plain (nfa_of (sequence_of c.args.r.now)) refl c.in_ok-chart.chart.nfa.states c.in_ok-chart.ensures.automaton
    c.args.part.now c.deref.result.now c.in_ok-cells.cells.items c.deref-3.result.now c.in_ok-values.values.items
    (subst (λ (misses : List Truth). Has (length c.args.part.now) (λ p. not (value_at c.args.part.now p)) misses) (sym c.deref.ensures.value) c.in_ok-misses.ensures)
    c.in_ok-cells.ensures
    (subst (λ (missed : List Truth). Has (length c.args.next.now) (λ p. value_at c.in_ok-cells.cells.items (cell_of (length c.in_ok-chart.chart.nfa.states) p (length c.in_ok-chart.chart.nfa.states - 1))) missed)
    (sym c.deref-3.ensures.value)
    (starts-as (length c.args.next.now) (length c.in_ok-chart.chart.nfa.states) c.len.result c.in_ok-cells.cells.items c.deref-2.result.now c.in_ok-missed.missed.items
    c.len.ensures c.deref-2.ensures.value c.in_ok-missed.ensures))
    c.in_ok-values.ensures
