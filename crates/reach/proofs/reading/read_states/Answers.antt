use Rattle.reach.specs.Readings.{HasState}
use Rattle.reach.proofs.Loops.{at-place, read-next}
use Rattle.reach.proofs.reading.read_states.Goals as goal

pub read_state-requires : goal.read_state-requires
read_state-requires c =
    let has = at-place (HasState c.args.joint.now) c.args.path.now c.loop-place.place c.at.result.now c.requires c.at.ensures in
    record { some = (has.0, has.1.is, has.1.same) }

pub loop-place-preserved : goal.loop-place-preserved
loop-place-preserved c =
    read-next c.args.joint.now c.args.path.now c.loop-place.place c.at.result.now c.loop-place.states c.push.new.self
    c.in_ok-read_state.field-0 c.at.ensures c.loop-place.invariant c.in_ok-read_state.ensures.is
    c.in_ok-read_state.ensures.bits c.in_ok-push.ensures.ok
