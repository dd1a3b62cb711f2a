use Rattle.test_reach.specs.Tables.{IsGoing}
use Rattle.test_reach.proofs.searches.searched.Given as goal

abbrev pub invariant-loop-turn : goal.invariant-loop-turn
invariant-loop-turn l = IsGoing l.table.start l.table.steps l.table.goal l.table.goal_within l.most l.frames
