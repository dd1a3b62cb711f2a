use Rattle.std.proofs.Common.{refl}
use Rattle.test_circuits.specs.declared.flat_models.Plain.{Plain}
use Rattle.test_circuits.proofs.PlacedTwice.{worked-room, IsNamed-worked}
use Rattle.test_circuits.proofs.flat_models.flattens_two_instances.Goals as goal

pub flatten-requires-clause-named : goal.flatten-requires-clause-named
flatten-requires-clause-named g c = rw c.in_ok-models.ensures (IsNamed-worked Plain (λ line. line.names) _ _ refl refl)

pub flatten-requires-clause-room : goal.flatten-requires-clause-room
flatten-requires-clause-room g c = rw c.in_ok-models.ensures (worked-room Plain (λ line. line.names) _ _ refl refl)
