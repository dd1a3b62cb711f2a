use Rattle.sere_nfa.proofs.InPlace.{ChangedBelow}
use Rattle.alternating_theory.specs.Construction.{opposite_obligation}
use Rattle.alternating.specs.Pending.{pending_of}
use Rattle.alternating.proofs.pending.negate_all.Given as goal

abbrev pub invariant-loop-pending : goal.invariant-loop-pending
invariant-loop-pending l = ChangedBelow pending_of opposite_obligation l.initial.pendings l.pendings l.pending-index
