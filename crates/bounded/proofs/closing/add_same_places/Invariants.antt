use Rattle.std.proofs.Common.{suc}
use Rattle.bounded.specs.Places.{begins_at, bit_at, place_bits}
use Rattle.bounded.specs.Searches.{same_under}
use Rattle.bounded.proofs.Appending.{Left}
use Rattle.bounded.proofs.closing.add_same_places.Given as goal

abbrev pub invariant-loop-bit : goal.invariant-loop-bit
invariant-loop-bit l =
    Left (λ bit. same_under (begins_at l.places.automaton.now l.places.last l.places.before l.place)
    (bit_at l.places.automaton.now l.places.before (suc l.place) bit) (bit_at l.places.automaton.now l.places.before (suc l.places.last) bit))
    l.initial.clauses l.clauses l.bit (place_bits l.places.automaton.now)
