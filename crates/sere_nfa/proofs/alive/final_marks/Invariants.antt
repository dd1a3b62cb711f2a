use Rattle.std.proofs.Common.{◌≡◌, false, [], length, drop, replicate}
use Rattle.sere_nfa.specs.Marking.{visit_all, finals_from}
use Rattle.sere_nfa.specs.MarkingView.{marking_of}
use Rattle.sere_nfa.specs.Views.{states_of_code}
use Rattle.sere_nfa.proofs.alive.final_marks.Given as goal

abbrev pub invariant-loop-number : goal.invariant-loop-number
invariant-loop-number l = record {
  same : visit_all (marking_of l.marking) (finals_from l.number (states_of_code (drop l.number l.states)))
      ≡ visit_all (record { marks = replicate (length l.states) false; waiting = [] }) (finals_from 0 (states_of_code l.states));
  len : length l.marking.marks.items ≡ length l.states;
}
