use Rattle.std.proofs.Common.{length, ◌-◌}
use Rattle.word_pool.proofs.Sliding.{IsSlid}
use Rattle.word_pool.proofs.runs.slide_runs.Given as goal

abbrev pub invariant-loop-from : goal.invariant-loop-from
invariant-loop-from l = IsSlid l.initial.words l.initial.slots l.words l.slots l.from l.to

abbrev pub decreases-loop-from : goal.decreases-loop-from
decreases-loop-from l = length l.initial.words - l.from
