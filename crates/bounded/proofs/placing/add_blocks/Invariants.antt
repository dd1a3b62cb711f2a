use Rattle.std.proofs.Common.{◌+◌}
use Rattle.bounded.specs.Places.{block}
use Rattle.bounded.proofs.Freeing.{FreesLeft}
use Rattle.bounded.proofs.placing.add_blocks.Given as goal

abbrev pub invariant-loop-place : goal.invariant-loop-place
invariant-loop-place l = FreesLeft (λ place. block (l.label + place) l.size) l.initial.builder l.builder l.place l.count
