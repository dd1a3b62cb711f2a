use Rattle.std.proofs.Common.{◌≡◌, ◌++◌, true, take, map}
use Rattle.alternating_theory.specs.Construction.{suffix_obligation}
use Rattle.alternating.specs.Pending.{pendings_of}
use Rattle.alternating.specs.Views.{obligation_of}
use Rattle.alternating.proofs.suffix.suffix.Given as goal

abbrev pub invariant-loop-state : goal.invariant-loop-state
invariant-loop-state l = pendings_of l.rest.items
    ≡ pendings_of l.initial.rest.items ++ map (λ state. suffix_obligation l.nfa.states l.stage.offset true (obligation_of l.follows) state.edges) (take l.state l.nfa.states)
