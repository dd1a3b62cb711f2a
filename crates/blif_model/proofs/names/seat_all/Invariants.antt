use Rattle.std.proofs.Common.{map}
use Rattle.blif_model.specs.Hashes.{Seats}
use Rattle.blif_model.proofs.names.seat_all.Given as goal

abbrev pub invariant-loop-number : goal.invariant-loop-number
invariant-loop-number l = Seats (map (λ text. text.now) l.texts) l.number l.slots l.others
