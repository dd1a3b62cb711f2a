use Rattle.std.proofs.Common.{◌≡◌, ◌++◌, length, drop}
use Rattle.lasso_judge.specs.Labels.{unmarked_at}
use Rattle.lasso_judge.proofs.before.add_unmarked.Given as goal

abbrev pub invariant-loop-state : goal.invariant-loop-state
invariant-loop-state l =
    l.found.items ++ unmarked_at (length l.chart.nfa.states) l.marks l.place (drop l.state-index l.states)
    ≡ l.initial.found.items ++ unmarked_at (length l.chart.nfa.states) l.marks l.place l.states
