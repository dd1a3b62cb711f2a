use Rattle.std.proofs.Common.{◌≡◌}
use Rattle.psl_base.specs.Places.{place_at}
use Rattle.psl_base.proofs.place.advance.Given as goal

abbrev pub invariant-loop-at : goal.invariant-loop-at
invariant-loop-at l = l.place ≡ place_at l.text l.at
