use Rattle.std.proofs.Common.{ℕ, ◌<◌, length}
use Rattle.alternating_theory.specs.Obligations.{obligation_at}
use Rattle.alternating_theory.specs.Positive.{OwesWithin}
use Rattle.bounded.proofs.facts.automaton_law.Given as goal

abbrev pub invariant-loop-number : goal.invariant-loop-number
invariant-loop-number l = (k : ℕ) → k < l.number
    → OwesWithin 0 (length l.automaton.obligations) (obligation_at l.automaton.obligations k).delta
