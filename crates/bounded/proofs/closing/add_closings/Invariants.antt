use Rattle.bounded.specs.Adding.{closed_in}
use Rattle.bounded.proofs.Appending.{Left}
use Rattle.bounded.proofs.closing.add_closings.Given as goal

abbrev pub invariant-loop-place : goal.invariant-loop-place
invariant-loop-place l =
    Left (closed_in l.places.automaton.now l.frames l.signals l.places.last l.places.before) l.initial.clauses l.clauses l.place l.places.last
