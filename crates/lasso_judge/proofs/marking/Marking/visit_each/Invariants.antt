use Rattle.std.proofs.Common.{◌≡◌, length, drop}
use Rattle.sere_nfa.specs.Marking.{visit_all}
use Rattle.lasso_judge.specs.MarkingView.{marking_of}
use Rattle.lasso_judge.proofs.marking.Marking.visit_each.Given as goal

abbrev pub invariant-loop-cell : goal.invariant-loop-cell
invariant-loop-cell l = record {
  same : visit_all (marking_of l.self) (drop l.cell-index l.cells) ≡ visit_all (marking_of l.initial.self) l.cells;
  len : length l.self.marks.items ≡ length l.initial.self.marks.items;
}
