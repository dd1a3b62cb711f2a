-- What the public calls show of an automaton.
use Rattle.std.proofs.Common.{◌≡◌, ℕ, zero, suc, ◌<◌, List, [], ◌∷◌, length, get_or, refl, arith}
use Rattle.alternating_theory.specs.Obligations.{obligation_at}
use Rattle.alternating.specs.Views.{obligation_of, obligations_of_code}
use Rattle.alternating.specs.declared.obligation.Obligation as code_obligation

-- the program's obligation of a number
pub shown-obligation : (os : List code_obligation.Obligation) (i : ℕ) (d : code_obligation.Obligation) → i < length os
    → obligation_of (get_or os i d) ≡ obligation_at (obligations_of_code os) i
shown-obligation [] i d h = absurd (omega arith)
shown-obligation (o ∷ os) zero d h = refl
shown-obligation (o ∷ os) (suc i) d h = shown-obligation os i d (omega arith)
