use Rattle.std.proofs.Common.{◌≡◌, ◌++◌, take}
use Rattle.cdcl_conflict.specs.Standings.{hints_at}
use Rattle.cdcl_conflict.proofs.collect.add_hints.Given as goal

abbrev pub invariant-loop-place : goal.invariant-loop-place
invariant-loop-place l = l.hints.items ≡ l.fn.hints.items ++ hints_at l.standings l.reasons (take l.place-index l.places)
