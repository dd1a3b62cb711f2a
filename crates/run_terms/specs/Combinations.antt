-- Positive combinations as terms over the bits of a position and a term for each obligation at the next one.
use Rattle.std.specs.Prelude.{ℕ}
use Rattle.gates_theory.specs.Terms.{Term, Conjunction}
use Rattle.alternating_theory.specs.Positive.{Positive, Const, Holds, Owed, And, Or}
use Rattle.run_terms.specs.Booleans.{constant, either, boolean_term}

-- the letter of the position meets the combination, where a term says of each obligation whether the next one has it
abbrev pub positive_term : ℕ → ℕ → (ℕ → Term) → Positive → Term
positive_term signals base owed (Const value) = constant value
positive_term signals base owed (Holds test) = boolean_term signals base test
positive_term signals base owed (Owed number) = owed number
positive_term signals base owed (And left right) =
    Conjunction (positive_term signals base owed left) (positive_term signals base owed right)
positive_term signals base owed (Or left right) =
    either (positive_term signals base owed left) (positive_term signals base owed right)
