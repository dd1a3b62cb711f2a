-- The joint paths of a kind at a window, and what is told of them.
use Rattle.std.specs.Prelude.{◌≡◌, ℕ, Bool as Truth, true, false}
use Rattle.joint.specs.Joined.{Joined}
use Rattle.joint_theory.specs.Paths.{IsOpen}
use Rattle.joint_theory.specs.declared.path.JointPath.{JointPath}
use Rattle.owed.specs.Violations.{violation_of}
use Rattle.prover.specs.Glances.{IsUntold}
use Rattle.prover.specs.Proving.{IsRefuted}
use Rattle.prover.specs.declared.closing.Kind.{Kind}
use Rattle.prover.specs.declared.closing.Kind.TheVariants.{Open, Closed, Nothing}
use Rattle.prover.specs.declared.closing.View.{View}
use Rattle.prover.specs.declared.finding.OpenPath.{OpenPath}
use Rattle.prover.specs.declared.finding.Query.{Query}
use Rattle.prover.specs.declared.finding.Query.TheVariants.{Base, Induction}
use Rattle.prover.specs.declared.task.Task.{Task}

-- the query for the paths of a kind: those of the initial kind, or the others
abbrev pub kind_query : ℕ → ℕ → Truth → Query
kind_query visits window true = Base visits window
kind_query visits window false = Induction visits window

abbrev pub view_query : View → Query
view_query view = kind_query view.visits view.window view.initial

-- the joint states of the netlist and the automaton of the violations, for so many visits
abbrev pub IsJointOf : Task → ℕ → Joined → Type 0
IsJointOf task visits joint = joint ≡ record {
  design = task.netlist.now;
  automaton = violation_of task.unit.now task.directive.now;
  visits = visits;
}

-- a path of the kind is open at the window
abbrev pub IsSeen : Task → View → JointPath → Type 0
IsSeen task view path =
    IsOpen task.netlist.now (violation_of task.unit.now task.directive.now) view.visits view.window view.initial path

-- a path that is open at a window for a number of visits
abbrev pub IsPathAt : Task → ℕ → ℕ → OpenPath → Type 0
IsPathAt task visits window member =
    (member.visits ≡ visits)
    × IsOpen task.netlist.now (violation_of task.unit.now task.directive.now) visits window member.initial member.path

-- a path that is open, or a log by which there is none, or why nothing is told
abbrev pub IsKindOf : Task → View → Kind → Type 0
IsKindOf task view (Open path) = IsPathAt task view.visits view.window path
IsKindOf task view (Closed log) =
    IsRefuted task.netlist.now task.unit.now task.directive.now task.options.steps (view_query view) log
    × ((path : JointPath) → IsSeen task view path → ⊥)
IsKindOf task view (Nothing untold) = IsUntold task (view_query view) task.options.steps untold
