use Rattle.std.proofs.Common.{◌≡◌, drop, map}
use Rattle.blif_linking.specs.Sets.{gathered, text_at}
use Rattle.blif_linking.proofs.names.insert_all.Given as goal

abbrev pub invariant-loop-number : goal.invariant-loop-number
invariant-loop-number l =
    gathered l.initial.found (map (text_at l.names) l.numbers)
    ≡ gathered l.found (map (text_at l.names) (drop l.number-index l.numbers))
