use Rattle.std.proofs.Common.{◌≡◌, take, map}
use Rattle.alternating_theory.specs.Construction.{prefix_obligation}
use Rattle.alternating.specs.Pending.{pendings_of}
use Rattle.alternating.proofs.prefix.prefix.Given as goal

abbrev pub invariant-loop-state : goal.invariant-loop-state
invariant-loop-state l = pendings_of l.rest.items ≡ map (λ state. prefix_obligation l.stage.nfa.now.states l.stage.offset l.end state.edges) (take l.state l.stage.nfa.now.states)
