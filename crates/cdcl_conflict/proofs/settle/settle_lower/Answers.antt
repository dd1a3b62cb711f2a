use Rattle.std.proofs.Common.{◌≡◌, ◌<◌, length, get_or, arith, sym}
use Rattle.std.proofs.lemmas.List.{get_or_read}
use Rattle.cdcl_conflict_theory.specs.Trails.{size_of}
use Rattle.cdcl_conflict.specs.Views.{steps_of}
use Rattle.cdcl_conflict.proofs.Settling.{listed_few, settling_more}
use Rattle.cdcl_conflict.proofs.settle.settle_lower.Goals as goal

pub loop-index-smaller : goal.loop-index-smaller
loop-index-smaller c =
    omega (arith, listed_few (size_of (steps_of c.args.trail.now)) c.loop-index.standings c.loop-index.reached.items c.loop-index.invariant.listed, c.loop-index-test.true, c.len.ensures)

pub loop-index-preserved : goal.loop-index-preserved
loop-index-preserved c =
    let reached = c.loop-index.reached.items in
    let within : c.loop-index.index < length reached = omega arith in
    let read : get_or reached c.loop-index.index 0 ≡ c.index.result.now = sym (get_or_read reached c.loop-index.index c.index.result.now within c.index.ensures 0) in
    settling_more c.args.clauses.now (steps_of c.args.trail.now) c.loop-index.index c.index.result.now c.args.standings.now c.loop-index.standings reached
    c.settle.new.standings c.settle.new.reached.items within read c.loop-index.invariant c.in_ok-settle.ensures
