use Rattle.std.proofs.Common.{rules}
use Rattle.sere_nfa.specs.Views.{edges_of}
use Rattle.sere_nfa.proofs.Loops.{edge_row-more}
use Rattle.sere_nfa.proofs.product.Product.pair.Goals as goal

pub loop-edge-preserved : goal.loop-edge-preserved
loop-edge-preserved c =
    edge_row-more c.args.self.offset c.args.self.width c.args.first.now.edges (edges_of c.args.second.now.edges) c.loop-edge.edge-index c.edge-item.result
    (edges_of c.loop-edge.edges) (edges_of c.add_pairs.new.into) (search rules) c.loop-edge.invariant (search rules)
