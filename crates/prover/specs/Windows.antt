-- Joint paths that keep a window open, of a netlist and the automaton of what violates a directive.
use Rattle.std.specs.Prelude.{◌≡◌, ◌<◌, ℕ, Bool as Truth, List, length, slice_get, Some}
use Rattle.joint_theory.specs.Paths.{IsOpen}
use Rattle.joint_theory.specs.declared.path.JointPath.{JointPath}
use Rattle.netlist.specs.Design.{Design}
use Rattle.owed.specs.Violations.{violation_of}
use Rattle.psl_tree.specs.declared.directive.Directive.{Directive}
use Rattle.prover.specs.declared.finding.OpenPath.{OpenPath}

-- some path is open at a window, of one kind or the other
abbrev pub HasOpenPath : Design → List Directive → Directive → ℕ → ℕ → Type 0
HasOpenPath design unit directive visits window =
    (initial : Truth) × (path : JointPath) × IsOpen design (violation_of unit directive) visits window initial path

-- the same for each of so many numbers of visits, from 0 on
abbrev pub StaysOpen : Design → List Directive → Directive → ℕ → ℕ → Type 0
StaysOpen design unit directive count window =
    (visits : ℕ) → visits < count → HasOpenPath design unit directive visits window

-- open paths at a window: one for each of so many numbers of visits, in order from 0 on
pub record AreOpenPaths (design : Design) (unit : List Directive) (directive : Directive)
    (count window : ℕ) (paths : List OpenPath) : Type 0 where
  pub many : length paths ≡ count
  pub each : (visits : ℕ) (member : OpenPath) → slice_get paths visits ≡ Some member
      → (member.visits ≡ visits)
      × IsOpen design (violation_of unit directive) visits window member.initial member.path
