use Rattle.std.proofs.Common.{map}
use Rattle.blif_model.proofs.Hashed.{AreOthers}
use Rattle.blif_model.proofs.names.sought.Given as goal

abbrev pub invariant-loop-place : goal.invariant-loop-place
invariant-loop-place l = AreOthers (map (λ text. text.now) l.texts) l.slots l.name l.place
