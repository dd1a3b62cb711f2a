use Rattle.std.proofs.Common.{◌≡◌, ℕ, List, drop, map}
use Rattle.blif_model.specs.Scanning.{word_of}
use Rattle.blif_linking.specs.Undriven.{first_free}
use Rattle.blif_linking.proofs.undriven.first_free.Given as goal

abbrev pub invariant-loop-number : goal.invariant-loop-number
invariant-loop-number l =
    (whole : List ℕ) → first_free l.free (map (word_of whole) l.words)
    ≡ first_free (drop l.number l.free) (map (word_of whole) (drop l.number l.words))
