use Rattle.psl_tree.specs.SequenceConstruction.{fused}
use Rattle.sere_nfa.specs.Views.{draft_of}
use Rattle.sere_nfa.proofs.InPlace.{ChangedBelow}
use Rattle.sere_nfa.proofs.state.fuse_all.Given as goal

abbrev pub invariant-loop-state : goal.invariant-loop-state
invariant-loop-state l = ChangedBelow draft_of (λ state. fused (draft_of l.next) state) l.initial.states l.states l.state-index
