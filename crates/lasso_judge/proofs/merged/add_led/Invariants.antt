use Rattle.std.proofs.Common.{◌≡◌, ◌++◌, take, map}
use Rattle.sere_nfa.specs.Views.{edges_of}
use Rattle.lasso_judge.specs.Merging.{led}
use Rattle.lasso_judge.proofs.merged.add_led.Given as goal

abbrev pub invariant-loop-edge : goal.invariant-loop-edge
invariant-loop-edge l =
    edges_of l.into ≡ edges_of l.initial.into ++ map (λ edge. led l.classes edge) (edges_of (take l.edge-index l.from))
