use Rattle.std.proofs.Common.{◌≡◌, ◌-◌, drop, length}
use Rattle.sere_nfa.specs.Views.{edges_of}
use Rattle.alternating_theory.specs.Construction.{going}
use Rattle.alternating.specs.Views.{positive_of}
use Rattle.alternating.proofs.suffix.going.Given as goal

abbrev pub invariant-loop-done : goal.invariant-loop-done
invariant-loop-done l = positive_of l.found ≡ going l.stage.nfa.now.states l.stage.offset (edges_of (drop (length l.edges - l.done) l.edges))
