-- Paths that keep a window open beyond the one at which they are open themselves.
use Rattle.std.specs.Prelude.{◌≡◌, ◌-◌, ◌<◌, ◌≤◌, ℕ, suc, nat_lt, ◌||◌, Bool as Truth, true, false, List, length, slice_get, Some}
use Rattle.alternating_theory.specs.Obligations.{Automaton}
use Rattle.joint_theory.specs.Paths.{IsOpenInitial, IsOpenOther}
use Rattle.joint_theory.specs.declared.path.JointPath.{JointPath}
use Rattle.netlist.specs.Design.{Design}
use Rattle.owed.specs.Violations.{violation_of}
use Rattle.prover.specs.declared.finding.OpenPath.{OpenPath}
use Rattle.prover.specs.declared.task.Task.{Task}

-- The path keeps the window open: one of the initial kind is open there; another one is open there or at a larger window
-- within the depth, and then its last states are open there.
abbrev pub KeepsOpen : Design → Automaton → ℕ → ℕ → ℕ → Truth → JointPath → Type 0
KeepsOpen design automaton depth visits window true path = IsOpenInitial design automaton visits window path
KeepsOpen design automaton depth visits window false path =
    (larger : ℕ) × (window ≤ larger) × (larger ≤ depth) × IsOpenOther design automaton visits larger path

-- a path for a number of visits that keeps the window open
pub record IsKeptFor (task : Task) (visits window : ℕ) (member : OpenPath) : Type 0 where
  pub visits_are : member.visits ≡ visits
  pub keeps : KeepsOpen task.netlist.now (violation_of task.unit.now task.directive.now) task.options.depth visits window
      member.initial member.path

-- one for each of so many numbers of visits, in order from 0 on
pub record AreKeptFor (task : Task) (count window : ℕ) (paths : List OpenPath) : Type 0 where
  pub many : length paths ≡ count
  pub each : (visits : ℕ) (member : OpenPath) → slice_get paths visits ≡ Some member → IsKeptFor task visits window member

-- one for each number of visits, that keeps the window open for so many of them, and the one before for the others
pub record AreKeptTo (task : Task) (count window : ℕ) (paths : List OpenPath) : Type 0 where
  pub many : length paths ≡ suc task.options.visits
  pub done : (visits : ℕ) (member : OpenPath) → visits < count → slice_get paths visits ≡ Some member → IsKeptFor task visits window member
  pub left : (visits : ℕ) (member : OpenPath) → count ≤ visits → slice_get paths visits ≡ Some member → IsKeptFor task visits (window - 1) member

-- a path of the induction that is open at the window
pub record IsAhead (task : Task) (visits window : ℕ) (member : OpenPath) : Type 0 where
  pub visits_are : member.visits ≡ visits
  pub other : member.initial ≡ false
  pub is : IsOpenOther task.netlist.now (violation_of task.unit.now task.directive.now) visits window member.path

-- whether a path that keeps the window before open keeps this one open
abbrev pub keeps_at : ℕ → OpenPath → Truth
keeps_at window member = member.initial || nat_lt window (length member.path.states)
