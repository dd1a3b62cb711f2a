use Rattle.sere_nfa.proofs.Reach.{work}
use Rattle.sere_nfa.specs.MarkingView.{marking_of}
use Rattle.alternating.specs.Views.{obligations_of_code}
use Rattle.alternating.proofs.Search.{IsSearch}
use Rattle.alternating.proofs.marking.reached_marks.Given as goal

abbrev pub invariant-loop-number : goal.invariant-loop-number
invariant-loop-number l = IsSearch (obligations_of_code l.obligations) l.start (marking_of l.marking)

abbrev pub decreases-loop-number : goal.decreases-loop-number
decreases-loop-number l = work (marking_of l.marking)
