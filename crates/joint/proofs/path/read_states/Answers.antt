use Rattle.joint.proofs.States.{states-more}
use Rattle.joint.proofs.path.read_states.Goals as goal

pub loop-position-preserved : goal.loop-position-preserved
loop-position-preserved c =
    states-more c.args.product.netlist.now c.args.product.violation.now c.args.product.visits c.loop-position.position c.args.size c.args.values.now c.loop-position.states c.push.new.self c.in_ok-read_state.field-0
    c.requires.size c.loop-position.invariant c.in_ok-read_state.ensures c.in_ok-push.ensures.ok
