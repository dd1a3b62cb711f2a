use Rattle.std.proofs.Common.{◌≡◌, take}
use Rattle.psl_tree.specs.SequenceConstruction.{edge_pairs}
use Rattle.sere_nfa.specs.Views.{edges_of}
use Rattle.sere_nfa.proofs.product.Product.pair.Given as goal

abbrev pub invariant-loop-edge : goal.invariant-loop-edge
invariant-loop-edge l =
    edges_of l.edges ≡ edge_pairs l.self.offset l.self.width (edges_of (take l.edge-index l.first.edges)) (edges_of l.second.edges)
