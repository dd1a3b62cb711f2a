use Rattle.word_pool.proofs.Marking.{IsMarkedBelow}
use Rattle.word_pool.proofs.runs.mark_runs.Given as goal

abbrev pub invariant-loop-id : goal.invariant-loop-id
invariant-loop-id l = IsMarkedBelow l.initial.words l.initial.slots l.words l.slots l.id
