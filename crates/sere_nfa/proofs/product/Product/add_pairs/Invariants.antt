use Rattle.std.proofs.Common.{◌≡◌, ◌++◌, take, map}
use Rattle.psl_tree.specs.SequenceConstruction.{edge_pair}
use Rattle.sere_nfa.specs.Views.{edge_of, edges_of}
use Rattle.sere_nfa.proofs.product.Product.add_pairs.Given as goal

abbrev pub invariant-loop-second : goal.invariant-loop-second
invariant-loop-second l =
    edges_of l.into ≡ edges_of l.initial.into
    ++ map (λ second. edge_pair l.self.offset l.self.width (edge_of l.first) second) (edges_of (take l.second-index l.seconds))
