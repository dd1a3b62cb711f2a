use Rattle.std.proofs.Common.{◌≡◌, drop}
use Rattle.sere_nfa.specs.Views.{edges_of}
use Rattle.alternating_theory.specs.Going.{goes_on}
use Rattle.alternating.proofs.stage.goes_on.Given as goal

abbrev pub invariant-loop-edge : goal.invariant-loop-edge
invariant-loop-edge l = goes_on l.nfa.states (edges_of (drop l.edge-index l.edges)) ≡ goes_on l.nfa.states (edges_of l.edges)
