use Rattle.std.proofs.Common.{◌≡◌, ◌++◌, take, map}
use Rattle.psl_tree.specs.Trees.{boolean_of}
use Rattle.psl_tree.specs.SequenceConstruction.{narrowed}
use Rattle.sere_nfa.specs.Views.{edges_of}
use Rattle.sere_nfa.proofs.edge.add_narrowed.Given as goal

abbrev pub invariant-loop-edge : goal.invariant-loop-edge
invariant-loop-edge l =
    edges_of l.into ≡ edges_of l.initial.into ++ map (λ edge. narrowed (boolean_of l.label) edge) (edges_of (take l.edge-index l.from))
