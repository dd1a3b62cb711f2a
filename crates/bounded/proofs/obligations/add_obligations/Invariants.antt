use Rattle.std.proofs.Common.{suc}
use Rattle.bounded.specs.Adding.{frame_in}
use Rattle.bounded.specs.Obligations.{with_place}
use Rattle.bounded.proofs.Additions.{SoFar}
use Rattle.bounded.proofs.obligations.add_obligations.Given as goal

abbrev pub invariant-loop-place : goal.invariant-loop-place
invariant-loop-place l =
    SoFar (with_place l.places.automaton.now (frame_in l.frames) l.places.last l.places.before) l.initial.builder l.builder l.clauses l.place
    (suc l.places.last) (record { nodes = l.initial.builder.nodes; clauses = l.initial.clauses })
