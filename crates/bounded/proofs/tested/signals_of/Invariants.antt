use Rattle.std.proofs.Common.{◌≡◌, ◌++◌, drop}
use Rattle.std.specs.List.{flat_map}
use Rattle.alternating_theory.specs.Obligations.{Obligation}
use Rattle.bounded.specs.Tested.{signals_of, signals_of_positive}
use Rattle.bounded.proofs.tested.signals_of.Given as goal

abbrev pub invariant-loop-number : goal.invariant-loop-number
invariant-loop-number l =
    l.tested ++ flat_map (λ (obligation : Obligation). signals_of_positive obligation.delta) (drop l.number l.automaton.obligations) ≡ signals_of l.automaton
