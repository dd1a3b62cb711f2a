use Rattle.std.proofs.Common.{◌≡◌, ◌-◌, drop, length}
use Rattle.sere_nfa.specs.Views.{edges_of}
use Rattle.alternating_theory.specs.Construction.{taken}
use Rattle.alternating.specs.Views.{positive_of}
use Rattle.alternating.proofs.prefix.taken.Given as goal

abbrev pub invariant-loop-done : goal.invariant-loop-done
invariant-loop-done l = positive_of l.found ≡ taken l.stage.nfa.now.states l.stage.offset (edges_of (drop (length l.edges - l.done) l.edges))
