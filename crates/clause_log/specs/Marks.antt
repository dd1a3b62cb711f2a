-- What a set of literals is to its callers.
use Rattle.std.specs.Prelude.{ℕ, ℤ, List}

-- literals over so many variables, in the order in which they were put in
pub record LiteralList : Type 0 where
  pub variables : ℕ
  pub members : List ℤ
