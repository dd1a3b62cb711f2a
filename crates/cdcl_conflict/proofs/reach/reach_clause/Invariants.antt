use Rattle.cdcl_conflict.specs.Views.{steps_of}
use Rattle.cdcl_conflict.specs.Standings.{IsReaching}
use Rattle.cdcl_conflict.proofs.reach.reach_clause.Given as goal

abbrev pub invariant-loop-literal : goal.invariant-loop-literal
invariant-loop-literal l =
    IsReaching (steps_of l.fn.trail) l.clause l.end l.literal-index l.fn.standings l.fn.reached.items l.standings l.reached.items l.waiting
