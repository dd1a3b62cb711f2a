use Rattle.psl_tree.specs.SequenceConstruction.{joined}
use Rattle.sere_nfa.specs.Views.{draft_of}
use Rattle.sere_nfa.proofs.InPlace.{ChangedBelow}
use Rattle.sere_nfa.proofs.state.join_all.Given as goal

abbrev pub invariant-loop-state : goal.invariant-loop-state
invariant-loop-state l = ChangedBelow draft_of (λ state. joined (draft_of l.next) state) l.initial.states l.states l.state-index
