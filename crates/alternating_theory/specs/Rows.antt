-- Worked examples of the construction: how many obligations some formulas have.
use Rattle.std.specs.Prelude.{◌≡◌, ℕ, length}
use Rattle.psl_tree.specs.Sugar.{always, eventually, implication, next_strong}
use Rattle.psl_tree.specs.Rows.{a, b, a_then_false, asynchronous}
use Rattle.psl_tree.specs.Trees.{Formula, Now, And, Next, Strong, One, Concat}
use Rattle.alternating_theory.specs.Built.{built}

abbrev size : Formula → ℕ
size formula = length (built formula).obligations

pub record SizeRows : Type 0 where
  pub letter : size (Now a) ≡ 1
  pub always_letter : size (always (Now a)) ≡ 2
  pub always_eventually : size (always (eventually (Now a))) ≡ 3
  pub handshake : size (always (implication (Now a) (next_strong (Now b)))) ≡ 3
  -- a and then false: the second edge's label never holds, and it is kept, since Top holds it
  pub false_edge : size a_then_false ≡ 2
  pub twice : size (Strong (Concat (One a) (One b))) ≡ 2
  pub aborted : size asynchronous ≡ 3
  -- what both sides owe at the next place is one obligation
  pub next_twice : size (And (Next (Now a)) (Next (Now a))) ≡ 2
