use Rattle.std.proofs.Common.{length}
use Rattle.bounded.specs.Adding.{frame_in}
use Rattle.bounded.specs.Obligations.{with_obligation}
use Rattle.bounded.proofs.Additions.{SoFar}
use Rattle.bounded.proofs.obligations.add_place.Given as goal

abbrev pub invariant-loop-number : goal.invariant-loop-number
invariant-loop-number l =
    SoFar (with_obligation l.places.automaton.now (frame_in l.frames) l.places.last l.places.before l.place) l.initial.builder l.builder l.clauses l.number
    (length l.places.automaton.now.obligations) (record { nodes = l.initial.builder.nodes; clauses = l.initial.clauses })
