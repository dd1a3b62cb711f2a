-- What an abort needs on a course, and that satisfaction follows from its double negation.
use Rattle.std.specs.Prelude.{Bool as Truth, ◌↔◌, ℕ, if◌then◌else◌, IsTrue, None}
use Rattle.psl_tree.specs.Satisfaction.{Sat}
use Rattle.psl_tree.specs.Trace.{Trace}
use Rattle.psl_tree.specs.Holds.{holds}
use Rattle.psl_tree.specs.Trees.{Boolean, Formula, Abort}
use Rattle.alternating_theory.specs.Courses.{Course, read_from, stopped}

-- an answer that says whether a formula is satisfied on the course that goes on at the sink from the
-- first place on which the Boolean holds, says whether the abort is satisfied on the course
pub record IsCutAtFirst (course : Course) (test : Boolean) (sink : ℕ) (formula : Formula) (place : ℕ) : Type 0 where
  pub same : (answer : Truth)
      → IsTrue answer ↔ Sat (read_from (stopped (λ q. holds (course.letter q) test) sink course) (if holds (course.letter place) test then sink else place)) formula None
      → IsTrue answer ↔ Sat (read_from course place) (Abort formula test) None

-- what cannot fail to be satisfied is satisfied, on every trace
pub record IsStable (formula : Formula) : Type 0 where
  pub stable : (trace : Trace) → ((Sat trace formula None → ⊥) → ⊥) → Sat trace formula None
