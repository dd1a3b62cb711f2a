-- The atoms that a formula tests.
use Rattle.std.specs.Prelude.{IsTrue, ◌≡◌, ◌≤◌, ◌<◌, ℕ, false, if◌then◌else◌, List, [], ◌∷◌, ◌++◌, length, take, All, Contains, slice_index_or}
use Rattle.alternating_theory.specs.Atoms.{is_among}
use Rattle.psl_tree.specs.Atoms.{AtomsOfFormula}
use Rattle.psl_tree.specs.Counts.{formula_size}
use Rattle.psl_tree.specs.Trees.{Formula}
use Rattle.psl_tree.specs.declared.atom.Atom.{Atom}
pub use Rattle.vcd_reader.specs.Tested.{atoms_in_boolean, atoms_in_sequence, atoms_in}

-- a list with one more atom, unless the same is there
abbrev pub with_one : List Atom → Atom → List Atom
with_one atoms atom = if is_among atoms atom then atoms else atoms ++ atom ∷ []

-- a list with those of further atoms that are not the same as one before
abbrev pub with_new : List Atom → List Atom → List Atom
with_new atoms [] = atoms
with_new atoms (atom ∷ further) = with_new (with_one atoms atom) further

-- these are just the atoms of the formula, each once, and no more of them than constructors
pub record AreTested (formula : Formula) (atoms : List Atom) : Type 0 where
  pub all : AtomsOfFormula (λ atom. IsTrue (is_among atoms atom)) formula
  pub only : All (Contains (atoms_in formula)) atoms
  pub once : (place : ℕ) (other : Atom) → place < length atoms → is_among (take place atoms) (slice_index_or atoms place other) ≡ false
  pub few : length atoms ≤ formula_size formula
