use Rattle.gates_frames.specs.Frames.{literal_at}
use Rattle.bounded.specs.Searches.{same_under}
use Rattle.bounded.proofs.Appending.{Rest}
use Rattle.bounded.proofs.closing.add_same_frames.Given as goal

abbrev pub invariant-loop-i : goal.invariant-loop-i
invariant-loop-i l = Rest (λ signal. same_under l.guard (literal_at 0 l.here signal) (literal_at 0 l.last signal)) l.initial.clauses l.clauses l.i l.signals
