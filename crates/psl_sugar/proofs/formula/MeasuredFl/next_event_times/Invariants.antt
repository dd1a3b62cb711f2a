use Rattle.std.proofs.Common.{◌≡◌, ◌≤◌, max}
use Rattle.psl_sugar.specs.Properties.{next_event_times}
use Rattle.psl_sugar.proofs.formula.MeasuredFl.next_event_times.Given as goal

abbrev pub invariant-loop-done : goal.invariant-loop-done
invariant-loop-done l = record { so_far : l.all ≡ next_event_times l.strength l.test l.done l.fn.self; in_count : l.done ≤ max l.count 1 }
