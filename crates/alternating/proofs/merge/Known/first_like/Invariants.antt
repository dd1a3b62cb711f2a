use Rattle.std.proofs.Common.{◌≡◌, ◌-◌}
use Rattle.alternating_theory.specs.Merged.{class_in, first_from, is_like}
use Rattle.alternating.specs.Views.{obligations_of_code}
use Rattle.alternating.proofs.merge.Known.first_like.Given as goal

abbrev pub invariant-loop-earlier : goal.invariant-loop-earlier
invariant-loop-earlier l =
    first_from 0 l.number (λ earlier. is_like (obligations_of_code l.self.obligations.now) (class_in l.self.classes.now) earlier l.number)
    ≡ first_from l.earlier (l.number - l.earlier) (λ earlier. is_like (obligations_of_code l.self.obligations.now) (class_in l.self.classes.now) earlier l.number)
