-- The sizes of combinations, by which those that differ are told apart soonest.
use Rattle.std.specs.Prelude.{ℕ, ◌+◌, ◌%◌, ◌^◌, List, map}
use Rattle.alternating_theory.specs.Obligations.{Obligation}
use Rattle.alternating_theory.specs.Positive.{Positive, Const, Holds, Owed, And, Or}

-- how many constructors a combination has, up to multiples of 2^32
abbrev pub size : Positive → ℕ
size (Const _) = 1
size (Holds _) = 1
size (Owed _) = 1
size (And left right) = ((size left + size right) % 2 ^ 32 + 1) % 2 ^ 32
size (Or left right) = ((size left + size right) % 2 ^ 32 + 1) % 2 ^ 32

-- that of each obligation's delta
abbrev pub delta_sizes : List Obligation → List ℕ
delta_sizes obligations = map (λ obligation. size obligation.delta) obligations
