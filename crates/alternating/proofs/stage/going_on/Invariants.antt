use Rattle.std.proofs.Common.{◌≡◌, take, map}
use Rattle.alternating_theory.specs.Going.{goes_on}
use Rattle.alternating.proofs.stage.going_on.Given as goal

abbrev pub invariant-loop-state : goal.invariant-loop-state
invariant-loop-state l = l.ongoing ≡ map (λ state. goes_on l.nfa.states state.edges) (take l.state l.nfa.states)
