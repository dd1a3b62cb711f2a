use Rattle.std.proofs.Common.{◌≡◌, take}
use Rattle.psl_layer.specs.Asked.{IsRead}
use Rattle.psl_layer.proofs.statements.read_statements.Given as goal

abbrev pub invariant-loop-place : goal.invariant-loop-place
invariant-loop-place l = record { read : IsRead l.names l.reading; before : l.reading.scope.before.now ≡ take l.place l.all }
