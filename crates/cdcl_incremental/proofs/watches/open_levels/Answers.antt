use Rattle.cdcl_incremental.proofs.Levels.{false_from}
use Rattle.cdcl_incremental.proofs.watches.open_levels.Goals as goal

pub returns-then-is_true-clause-false_ : goal.returns-then-is_true-clause-false_
returns-then-is_true-clause-false_ c = λ level order within.
    let path = c.args.trail.now in
    let there = rw c.opposite.ensures at (c.is_true.ensures.0 c.if-is_true.true) in
    false_from path c.places.result.now c.args.literal c.level_of.result level c.limits-limits.ensures.path c.places.ensures.is there
    (rw c.limits-limits.ensures.is at c.level_of.ensures.above) order
