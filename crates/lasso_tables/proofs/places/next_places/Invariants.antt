use Rattle.lasso_tables.specs.Tables.{Leads}
use Rattle.alternating_theory.specs.Courses.{next_place}
use Rattle.lasso_tables.proofs.places.next_places.Given as goal

abbrev pub invariant-loop-place : goal.invariant-loop-place
invariant-loop-place l = Leads l.place (λ place. next_place l.word place) l.next.items
