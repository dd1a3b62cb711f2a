use Rattle.sere_nfa.specs.MarkingView.{marking_of}
use Rattle.sere_nfa.specs.Views.{states_of_code}
use Rattle.sere_nfa.proofs.Reach.{IsSearch, work}
use Rattle.sere_nfa.proofs.alive.alive_marks.Given as goal

abbrev pub invariant-loop-number : goal.invariant-loop-number
invariant-loop-number l = IsSearch (states_of_code l.states) (marking_of l.marking)

abbrev pub decreases-loop-number : goal.decreases-loop-number
decreases-loop-number l = work (marking_of l.marking)
