-- What tests the values of inputs alone is met by letters of valuations that have the same inputs.
use Rattle.std.proofs.Common.{◌≡◌, ℕ, Bool, false, not, List, get_or, Option, None, Some, refl, sym, ap, ◌∙◌}
use Rattle.std.specs.Prelude.{Contains}
use Rattle.std.proofs.lemmas.List.{get_or-map}
use Rattle.alternating_theory.specs.Atoms.{AtomsOfPositive}
use Rattle.alternating_theory.specs.Positive.{Positive, Const, Holds, Owed, And, Or, met}
use Rattle.netlist.specs.Valuations.{bit, values}
use Rattle.netlist.proofs.Driving.{occurs-from}
use Rattle.psl_tree.specs.Atoms.{AtomsOfBoolean}
use Rattle.psl_tree.specs.Holds.{holds}
use Rattle.psl_tree.specs.Letters.{atom_at, edge_at}
use Rattle.psl_tree.specs.Names.{AtomInRange}
use Rattle.psl_tree.specs.Trees as trees
use Rattle.psl_tree.specs.Trees.{Boolean}
use Rattle.psl_tree.specs.declared.atom.Atom.{Atom}
use Rattle.psl_tree.specs.declared.atom.Edge.{Edge}
use Rattle.psl_tree.specs.declared.atom.Edge.TheVariants.{Value, Rise, Fall}
use Rattle.psl_tree.specs.declared.letter.Letter.{Letter}
use Rattle.psl_tree.specs.declared.name.Name.{Name}
use Rattle.run_terms.specs.Letters.{bits_after, letter_after, sample_after}
use Rattle.run_terms.proofs.Asked.{among-passed}

-- a signal among those on which two valuations agree
pub same-bit : (signals : List ℕ) (left right : List Bool) (signal : ℕ) → values left signals ≡ values right signals → Contains signals signal
    → bit left signal ≡ bit right signal
same-bit signals left right signal same found =
    let at = occurs-from signals signal found in
    let of = λ (valuation : List Bool). get_or-map (bit valuation) signals at.place 0 false at.within ∙ ap (bit valuation) at.is in
    sym (of left) ∙ ap (λ list. get_or list at.place false) same ∙ of right

-- a value does not ask of the valuation before
value-edge : (edge : Edge) (before : Option (List Bool)) (valuation : List Bool) (signal place : ℕ) → edge ≡ Value
    → edge_at edge (bits_after before valuation) (sample_after before) signal place ≡ bit valuation signal
value-edge Value None valuation signal place is = refl
value-edge Value (Some before) valuation signal place is = refl
value-edge Rise before valuation signal place is = cc
value-edge Fall before valuation signal place is = cc

module _ (names : List Name) (inputs : List ℕ) (first second : Option (List Bool)) (left right : List Bool) (same : values left inputs ≡ values right inputs) where
  abbrev one : Letter
  one = letter_after names first left

  abbrev other : Letter
  other = letter_after names second right

  abbrev Tests : Atom → Type 0
  Tests atom = (atom.edge ≡ Value) × Contains inputs atom.signal

  boolean-same : (test : Boolean) → AtomsOfBoolean (AtomInRange names) test → AtomsOfBoolean Tests test → holds one test ≡ holds other test
  boolean-same (trees.Const value) named tests = refl
  boolean-same (trees.Test atom) named tests =
      among-passed (atom_at (bits_after first left) (sample_after first)) names atom named
      ∙ value-edge atom.edge first left atom.signal atom.bit tests.0
      ∙ same-bit inputs left right atom.signal same tests.1
      ∙ sym (value-edge atom.edge second right atom.signal atom.bit tests.0)
      ∙ sym (among-passed (atom_at (bits_after second right) (sample_after second)) names atom named)
  boolean-same (trees.Not part) named tests = ap not (boolean-same part named tests)
  boolean-same (trees.And front back) named tests =
      let a = boolean-same front named.0 tests.0 in let b = boolean-same back named.1 tests.1 in cc
  boolean-same (trees.Or front back) named tests =
      let a = boolean-same front named.0 tests.0 in let b = boolean-same back named.1 tests.1 in cc

  pub met-same : (next : ℕ → Bool) (positive : Positive) → AtomsOfPositive (AtomInRange names) positive → AtomsOfPositive Tests positive
      → met positive one next ≡ met positive other next
  met-same next (Const value) named tests = refl
  met-same next (Holds test) named tests = boolean-same test named tests
  met-same next (Owed number) named tests = refl
  met-same next (And front back) named tests =
      let a = met-same next front named.0 tests.0 in let b = met-same next back named.1 tests.1 in cc
  met-same next (Or front back) named tests =
      let a = met-same next front named.0 tests.0 in let b = met-same next back named.1 tests.1 in cc
