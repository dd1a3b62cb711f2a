use Rattle.std.proofs.Common.{◌≡◌, ◌-◌, drop, length}
use Rattle.sere_nfa.specs.Views.{edges_of}
use Rattle.alternating_theory.specs.Construction.{quiet}
use Rattle.alternating.specs.Views.{positive_of}
use Rattle.alternating.proofs.suffix.quiet.Given as goal

abbrev pub invariant-loop-done : goal.invariant-loop-done
invariant-loop-done l = positive_of l.found ≡ quiet l.nfa.states (edges_of (drop (length l.edges - l.done) l.edges))
