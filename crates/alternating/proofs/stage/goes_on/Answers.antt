use Rattle.std.proofs.Common.{rules, ◌∙◌}
use Rattle.alternating.proofs.Edges.{goes-found, goes-missed}
use Rattle.alternating.proofs.stage.goes_on.Goals as goal

pub returns-then-alive : goal.returns-then-alive
returns-then-alive c =
    goes-found c.args.nfa.now c.requires.sound c.args.edges.now c.loop-edge.edge-index c.edge-item.result (search rules) c.edge-item.is c.alive.result c.alive.ensures c.if-alive.true
    ∙ c.loop-edge.invariant

pub loop-edge-preserved : goal.loop-edge-preserved
loop-edge-preserved c =
    goes-missed c.args.nfa.now c.requires.sound c.args.edges.now c.loop-edge.edge-index c.edge-item.result (search rules) c.edge-item.is c.alive.result c.alive.ensures c.if-alive.false
    ∙ c.loop-edge.invariant
