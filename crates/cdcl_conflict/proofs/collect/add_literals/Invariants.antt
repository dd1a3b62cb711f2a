use Rattle.std.proofs.Common.{◌≡◌, ◌++◌, length, take, reverse}
use Rattle.cdcl_conflict.specs.Standings.{literals_at}
use Rattle.cdcl_conflict.proofs.collect.add_literals.Given as goal

abbrev pub invariant-loop-place : goal.invariant-loop-place
invariant-loop-place l =
    l.lemma.items ≡ l.fn.lemma.items ++ literals_at l.standings l.literals (take (length l.yielded) (reverse l.places))
