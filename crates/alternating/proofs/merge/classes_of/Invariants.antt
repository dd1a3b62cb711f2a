use Rattle.std.proofs.Common.{◌≡◌}
use Rattle.alternating_theory.specs.Merged.{classes_upto}
use Rattle.alternating.specs.Views.{obligations_of_code}
use Rattle.alternating.proofs.merge.classes_of.Given as goal

abbrev pub invariant-loop-number : goal.invariant-loop-number
invariant-loop-number l = l.classes.items ≡ classes_upto (obligations_of_code l.obligations) l.number
