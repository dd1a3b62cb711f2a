use Rattle.blif_model.specs.Hashes.{AreTaken}
use Rattle.blif_model.proofs.names.empty_of.Given as goal

abbrev pub invariant-loop-place : goal.invariant-loop-place
invariant-loop-place l = AreTaken l.slots l.name l.place
