use Rattle.std.proofs.Common.{◌≡◌, length, drop}
use Rattle.sere_nfa.specs.Marking.{visit_all}
use Rattle.sere_nfa.specs.MarkingView.{marking_of}
use Rattle.sere_nfa.proofs.marking.Marking.visit_each.Given as goal

abbrev pub invariant-loop-number : goal.invariant-loop-number
invariant-loop-number l = record {
  same : visit_all (marking_of l.self) (drop l.number-index l.numbers) ≡ visit_all (marking_of l.initial.self) l.numbers;
  len : length l.self.marks.items ≡ length l.initial.self.marks.items;
}
