-- "Some" and "or" of the tables, as classical mathematics means them: it is absurd that there is none.
-- Satisfaction then is a proposition that follows from its own double negation, as the laws of
-- rewriting need, and a Boolean answer is tied to it as well as to a choice.
use Rattle.std.specs.Prelude.{ℕ}

-- some number has P
abbrev pub Exists : (ℕ → Type 0) → Type 0
Exists P = ((k : ℕ) → P k → ⊥) → ⊥

-- A holds, or B does
abbrev pub OneOf : Type 0 → Type 0 → Type 0
OneOf A B = (A → ⊥) → (B → ⊥) → ⊥
