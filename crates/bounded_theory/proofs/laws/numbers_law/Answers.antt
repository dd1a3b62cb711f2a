use Rattle.bounded_theory.proofs.Ranks.{numbers-accepted, accepted-numbers}
use Rattle.bounded_theory.proofs.laws.numbers_law.Goals as goal

pub returns : goal.returns
returns c = record { accepts = numbers-accepted; numbers = accepted-numbers }
