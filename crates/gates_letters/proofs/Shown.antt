-- The letter of valuations that frames show.
use Rattle.std.proofs.Common.{◌≡◌, ℕ, suc, ℤ, Bool, true, not, ◌&&◌, ◌||◌, List, map, Option, None, Some, refl, sym, ap, ◌∙◌}
use Rattle.std.specs.Bool.{IsTrue}
use Rattle.std.specs.Option.{option_map}
use Rattle.alternating_theory.specs.Atoms.{AtomsOfPositive}
use Rattle.alternating_theory.specs.Positive.{Positive, Const, Holds, Owed, And, Or, met}
use Rattle.clauses.specs.Models.{Assignment, is_true}
use Rattle.netlist.specs.Valuations.{bit}
use Rattle.psl_tree.specs.Atoms.{AtomsOfBoolean}
use Rattle.psl_tree.specs.Holds.{holds}
use Rattle.psl_tree.specs.Letters.{atom_at, edge_at}
use Rattle.psl_tree.specs.Names.{AtomInRange}
use Rattle.psl_tree.specs.Trees as trees
use Rattle.psl_tree.specs.Trees.{Boolean}
use Rattle.psl_tree.specs.declared.atom.Edge.{Edge}
use Rattle.psl_tree.specs.declared.atom.Edge.TheVariants.{Value, Rise, Fall}
use Rattle.psl_tree.specs.declared.name.Name.{Name}
use Rattle.gates_frames.specs.Frames.{Cone}
use Rattle.gates_frames.specs.Paths.{Shows}
use Rattle.run_terms.specs.Letters.{bits_after, letter_after, sample_after}
use Rattle.run_terms.proofs.Asked.{among-passed}
use Rattle.gates_letters.specs.Letters.{ShowsBefore, letter_of}
use Rattle.gates_letters.proofs.Parts.{at-value}

abbrev edge_after : Edge → Option (List Bool) → List Bool → ℕ → ℕ → Bool
edge_after edge before valuation signal place = edge_at edge (bits_after before valuation) (sample_after before) signal place

module _ (given : ℕ) (cone : Cone) (v : Assignment) (truth : v (suc given) ≡ true) where
  shown-bit : (literals : List ℤ) (valuation : List Bool) (signal : ℕ) → IsTrue (cone signal) → Shows given cone v literals valuation → bit (map (is_true v) literals) signal ≡ bit valuation signal
  shown-bit literals valuation signal inside shows = sym (at-value v given literals signal truth) ∙ shows signal inside

  edge-shown : (edge : Edge) (before : Option (List ℤ)) (now : List ℤ) (earlier : Option (List Bool)) (valuation : List Bool) (signal place : ℕ) → IsTrue (cone signal) →
      ShowsBefore given cone v before earlier → Shows given cone v now valuation →
      edge_after edge (option_map (map (is_true v)) before) (map (is_true v) now) signal place ≡ edge_after edge earlier valuation signal place
  edge-shown Value None now None valuation signal place inside first shows = shown-bit now valuation signal inside shows
  edge-shown Rise None now None valuation signal place inside first shows = refl
  edge-shown Fall None now None valuation signal place inside first shows = refl
  edge-shown edge None now (Some earlier) valuation signal place inside first shows = absurd first
  edge-shown edge (Some before) now None valuation signal place inside first shows = absurd first
  edge-shown Value (Some before) now (Some earlier) valuation signal place inside first shows = shown-bit now valuation signal inside shows
  edge-shown Rise (Some before) now (Some earlier) valuation signal place inside first shows =
      rw (shown-bit before earlier signal inside first, shown-bit now valuation signal inside shows) refl
  edge-shown Fall (Some before) now (Some earlier) valuation signal place inside first shows =
      rw (shown-bit before earlier signal inside first, shown-bit now valuation signal inside shows) refl

  module _ (names : List Name) (before : Option (List ℤ)) (now : List ℤ) (earlier : Option (List Bool)) (valuation : List Bool)
      (first : ShowsBefore given cone v before earlier) (shows : Shows given cone v now valuation) where
    boolean-shown : (test : Boolean) → AtomsOfBoolean (AtomInRange names) test → AtomsOfBoolean (λ atom. IsTrue (cone atom.signal)) test →
        holds (letter_of names v before now) test ≡ holds (letter_after names earlier valuation) test
    boolean-shown (trees.Const value) in_range inside = refl
    boolean-shown (trees.Test atom) in_range inside =
        among-passed (atom_at (bits_after (option_map (map (is_true v)) before) (map (is_true v) now)) (sample_after (option_map (map (is_true v)) before))) names atom in_range
        ∙ edge-shown atom.edge before now earlier valuation atom.signal atom.bit inside first shows
        ∙ sym (among-passed (atom_at (bits_after earlier valuation) (sample_after earlier)) names atom in_range)
    boolean-shown (trees.Not part) in_range inside = ap not (boolean-shown part in_range inside)
    boolean-shown (trees.And left right) in_range inside =
        let a = boolean-shown left in_range.0 inside.0 in
        let b = boolean-shown right in_range.1 inside.1 in
        ap (λ x. x && holds (letter_of names v before now) right) a ∙ ap (λ y. holds (letter_after names earlier valuation) left && y) b
    boolean-shown (trees.Or left right) in_range inside =
        let a = boolean-shown left in_range.0 inside.0 in
        let b = boolean-shown right in_range.1 inside.1 in
        ap (λ x. x || holds (letter_of names v before now) right) a ∙ ap (λ y. holds (letter_after names earlier valuation) left || y) b

    combination-shown : (next : ℕ → Bool) (positive : Positive) → AtomsOfPositive (AtomInRange names) positive → AtomsOfPositive (λ atom. IsTrue (cone atom.signal)) positive →
        met positive (letter_of names v before now) next ≡ met positive (letter_after names earlier valuation) next
    combination-shown next (Const value) in_range inside = refl
    combination-shown next (Holds test) in_range inside = boolean-shown test in_range inside
    combination-shown next (Owed number) in_range inside = refl
    combination-shown next (And left right) in_range inside =
        let a = combination-shown next left in_range.0 inside.0 in
        let b = combination-shown next right in_range.1 inside.1 in
        ap (λ x. x && met right (letter_of names v before now) next) a ∙ ap (λ y. met left (letter_after names earlier valuation) next && y) b
    combination-shown next (Or left right) in_range inside =
        let a = combination-shown next left in_range.0 inside.0 in
        let b = combination-shown next right in_range.1 inside.1 in
        ap (λ x. x || met right (letter_of names v before now) next) a ∙ ap (λ y. met left (letter_after names earlier valuation) next || y) b

pub shown-boolean : (given : ℕ) (names : List Name) (cone : Cone) (v : Assignment) (before : Option (List ℤ)) (now : List ℤ) (earlier : Option (List Bool)) (valuation : List Bool) (test : Boolean) →
    v (suc given) ≡ true → AtomsOfBoolean (AtomInRange names) test → AtomsOfBoolean (λ atom. IsTrue (cone atom.signal)) test → ShowsBefore given cone v before earlier → Shows given cone v now valuation →
    holds (letter_of names v before now) test ≡ holds (letter_after names earlier valuation) test
shown-boolean given names cone v before now earlier valuation test truth in_range inside first shows =
    boolean-shown given cone v truth names before now earlier valuation first shows test in_range inside

pub shown-combination : (given : ℕ) (names : List Name) (cone : Cone) (v : Assignment) (before : Option (List ℤ)) (now : List ℤ) (earlier : Option (List Bool)) (valuation : List Bool) (next : ℕ → Bool)
    (positive : Positive) → v (suc given) ≡ true → AtomsOfPositive (AtomInRange names) positive → AtomsOfPositive (λ atom. IsTrue (cone atom.signal)) positive →
    ShowsBefore given cone v before earlier → Shows given cone v now valuation → met positive (letter_of names v before now) next ≡ met positive (letter_after names earlier valuation) next
shown-combination given names cone v before now earlier valuation next positive truth in_range inside first shows =
    combination-shown given cone v truth names before now earlier valuation first shows next positive in_range inside
