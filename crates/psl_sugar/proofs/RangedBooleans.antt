-- What each atom of the operands has, each atom of a Boolean made of them has.
use Rattle.std.proofs.Common.{ℕ, zero, suc, ◌-◌, List, length}
use Rattle.psl_sugar.specs.Booleans.{number, bit_of, conjunction_of, disjunction_of, some_bit}
use Rattle.psl_sugar.specs.declared.vector.Bit.{Bit}
use Rattle.psl_tree.specs.Atoms.{AtomsOfBoolean}
use Rattle.psl_tree.specs.Trees.{Boolean}
use Rattle.psl_tree.specs.declared.atom.Atom.{Atom}

module _ (P : Atom → Type 0) where
  pub number-has : (value : ℕ) → AtomsOfBoolean P (number value)
  number-has value = tt

  pub conjunction-has : (part : ℕ → Boolean) → ((bit : ℕ) → AtomsOfBoolean P (part bit)) → (count : ℕ) → AtomsOfBoolean P (conjunction_of part count)
  conjunction-has part each zero = each 0
  conjunction-has part each (suc more) = (conjunction-has part each more, each (suc more))

  disjunction-has : (part : ℕ → Boolean) → ((bit : ℕ) → AtomsOfBoolean P (part bit)) → (count : ℕ) → AtomsOfBoolean P (disjunction_of part count)
  disjunction-has part each zero = each 0
  disjunction-has part each (suc more) = (disjunction-has part each more, each (suc more))

  -- a vector whose bits have P
  module _ (vector : List Bit) (each : (bit : ℕ) → AtomsOfBoolean P (bit_of vector bit)) where
    pub some-has : AtomsOfBoolean P (some_bit vector)
    some-has = disjunction-has (bit_of vector) each (length vector - 1)
