-- The laws that functions state.
use Rattle.std.proofs.Common.{◌≡◌, ℕ}
use Rattle.psl_tree.specs.Clockless.{IsPlain}
use Rattle.psl_tree.specs.Trees.{Boolean, Formula}
use Rattle.psl_tree.specs.declared.letter.Letter.TheVariants.{Top}
use Rattle.alternating_theory.specs.Courses.{Course}
use Rattle.alternating_theory.specs.CourseLaws.{IsCutAtFirst, IsStable}
use Rattle.alternating_theory.proofs.CourseAborts.{abort-same}
use Rattle.alternating_theory.proofs.Stable.{stable}

pub cut_at_first : (c : Course) (b : Boolean) (sink : ℕ) → c.letter sink ≡ Top → c.next sink ≡ sink → (f : Formula) → IsPlain f → (p : ℕ) → IsCutAtFirst c b sink f p
cut_at_first c b sink top rests f plain p = record { same = λ t. abort-same c b sink top rests f plain p t }

pub is_stable : (f : Formula) → IsPlain f → IsStable f
is_stable f plain = record { stable = stable f plain }
