-- How large a formula is, as far as its automaton and its circuits go by it.
use Rattle.std.specs.Prelude.{◌≡◌, ◌↔◌, IsTrue, Option, None, Some}
use Rattle.alternating.specs.Limits.{HasLargeSequence}
use Rattle.owed.specs.declared.size.Size.{Size}
use Rattle.psl_tree.specs.Counts.{formula_size, obligations_of, shown}
use Rattle.psl_tree.specs.Trees.{Formula}

-- the size is that of the formula
pub record IsSizeOf (size : Size) (formula : Formula) : Type 0 where
  pub sequences : IsTrue size.has_large_sequence ↔ HasLargeSequence formula
  pub obligations : size.obligations ≡ shown (obligations_of formula)
  pub constructors : size.constructors ≡ shown (formula_size formula)

-- the size is that of the formula; there is none where there is no formula
abbrev pub AreSizesOf : Option Size → Option Formula → Type 0
AreSizesOf None None = Unit {0}
AreSizesOf (Some size) (Some formula) = IsSizeOf size formula
AreSizesOf _ _ = ⊥
