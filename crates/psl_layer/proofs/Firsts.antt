-- The first fault of lists that stand one behind another.
use Rattle.std.proofs.Common.{◌≡◌, List, ◌++◌, Option, None, Some, refl}
use Rattle.psl_layer_theory.specs.FirstFlaw.{first_of, earlier}
use Rattle.psl_layer_theory.specs.declared.fault.Flaw.{Flaw}
use Rattle.psl_layer_theory.proofs.Firsts.{first_of-append}

pub of_both : (xs ys : List Flaw) → first_of (xs ++ ys) ≡ earlier (first_of xs) (first_of ys)
of_both = first_of-append

-- nothing is earlier than a fault
pub earlier_none : (first : Option Flaw) → earlier first None ≡ first
earlier_none None = refl
earlier_none (Some first) = refl
