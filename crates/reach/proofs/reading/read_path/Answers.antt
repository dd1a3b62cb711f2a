use Rattle.reach.proofs.Walks.{is-open, led-states}
use Rattle.reach.proofs.reading.read_path.Goals as goal

pub read_states-requires : goal.read_states-requires
read_states-requires c = led-states c.args.joint.now c.args.path.now c.requires.led

pub returns : goal.returns
returns c =
    is-open c.args.joint.now c.args.path.now c.in_ok-states.states c.in_ok-states.ensures c.args.most c.requires
