use Rattle.std.proofs.Common.{◌≡◌, ◌+◌, take, map}
use Rattle.psl_tree.specs.Trees.{boolean_of}
use Rattle.alternating_theory.specs.Construction.{cut_obligation}
use Rattle.alternating.specs.Pending.{pendings_of}
use Rattle.alternating.proofs.abort.cut_all.Given as goal

abbrev pub invariant-loop-pending : goal.invariant-loop-pending
invariant-loop-pending l =
    pendings_of l.copies.items ≡ map (λ obligation. cut_obligation (λ number. number + l.by) (boolean_of l.test) obligation) (pendings_of (take l.pending-index l.pendings))
