use Rattle.std.proofs.Common.{◌≡◌, [], replicate}
use Rattle.vcd_reader.proofs.body.Body.new.Given as goal

abbrev pub invariant-loop : goal.invariant-loop
invariant-loop l = l.changes.items ≡ replicate l.counter []
