use Rattle.std.proofs.Common.{arith}
use Rattle.word_pool.proofs.Marking.{mark_more, mark_run_more, marks_vacant}
use Rattle.word_pool.proofs.runs.mark_runs.Goals as goal
use Rattle.word_pool.proofs.runs.mark_runs.Goals.{in-Some, in_default}

pub loop-id-preserved : goal.loop-id-preserved
loop-id-preserved c = elim c.match-slots-id.branch [
  | in-Some w ↦ rw (w.words-is, w.slots-is)
      (mark_run_more c.loop-id.invariant (omega arith) w.in-Some.run' w.mark_run.result w.mark_run.new.words w.in-Some.is w.mark_run.ensures.empty w.mark_run.ensures.marked)
  | in_default w ↦ rw (w.words-is, w.slots-is) (mark_more c.loop-id.invariant (marks_vacant c.loop-id.id w.in_default.is))
]
