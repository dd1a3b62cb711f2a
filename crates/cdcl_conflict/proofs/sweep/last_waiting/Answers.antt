use Rattle.std.proofs.Common.{◌<◌, arith}
use Rattle.cdcl_conflict.specs.Standings.{waiting_below}
use Rattle.cdcl_conflict.proofs.Counting.{waiting-last}
use Rattle.cdcl_conflict.proofs.sweep.last_waiting.Goals as goal

pub returns-in-Waiting-clause-start : goal.returns-in-Waiting-clause-start
returns-in-Waiting-clause-start c =
    let some : 0 < waiting_below c.args.standings.now c.args.start c.loop-place.place = omega (arith, c.loop-place.invariant.counted, c.requires.some) in
    (waiting-last c.args.standings.now c.args.start c.loop-place.place some c.in-Waiting.is).0

pub returns-in-Waiting-clause-one : goal.returns-in-Waiting-clause-one
returns-in-Waiting-clause-one c =
    let some : 0 < waiting_below c.args.standings.now c.args.start c.loop-place.place = omega (arith, c.loop-place.invariant.counted, c.requires.some) in
    omega (arith, (waiting-last c.args.standings.now c.args.start c.loop-place.place some c.in-Waiting.is).1, c.loop-place.invariant.counted)
