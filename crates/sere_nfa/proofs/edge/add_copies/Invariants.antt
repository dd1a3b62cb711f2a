use Rattle.std.proofs.Common.{◌≡◌, ◌++◌, take}
use Rattle.sere_nfa.specs.Views.{edges_of}
use Rattle.sere_nfa.proofs.edge.add_copies.Given as goal

abbrev pub invariant-loop-edge : goal.invariant-loop-edge
invariant-loop-edge l = edges_of l.into ≡ edges_of l.initial.into ++ edges_of (take l.edge-index l.from)
