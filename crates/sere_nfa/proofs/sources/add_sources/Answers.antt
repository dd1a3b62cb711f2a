use Rattle.std.proofs.Common.{rules}
use Rattle.sere_nfa.proofs.SourceLoops.{edge-source}
use Rattle.sere_nfa.proofs.sources.add_sources.Goals as goal

pub loop-edge-preserved : goal.loop-edge-preserved
loop-edge-preserved c = record {
  len = search rules;
  each = edge-source c.args.sources.now.items c.loop-edge.sources.items c.args.number c.args.edges.now c.loop-edge.edge-index c.edge-item.result
      c.index_mut.result.now c.push.new.self (search rules) c.edge-item.is c.loop-edge.invariant.len (search rules) c.index_mut.ensures.value c.in_ok-push.ensures.ok
      c.loop-edge.invariant.each;
}
