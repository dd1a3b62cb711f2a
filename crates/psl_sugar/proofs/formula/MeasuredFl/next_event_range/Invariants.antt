use Rattle.std.proofs.Common.{◌≡◌, ℕ}
use Rattle.psl_sugar.specs.Properties.{next_event_times, joined_parts}
use Rattle.psl_sugar.proofs.formula.MeasuredFl.next_event_range.Given as goal

abbrev pub invariant-loop-more : goal.invariant-loop-more
invariant-loop-more l = l.all ≡ joined_parts l.quantifier (λ (count : ℕ). next_event_times l.strength l.test count l.fn.self) l.low l.more
