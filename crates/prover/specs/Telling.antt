-- What is told of a search: the lines of milestones, which hold.
use Rattle.std.specs.Prelude.{ℕ, List, All}
use Rattle.std.specs.List.{flat_map}
use Rattle.psl_base.specs.Sink.{SinkState, AddsAll, AddsPart}
use Rattle.psl_tree.specs.declared.directive.Directive.{Directive}
use Rattle.prover.specs.Milestones.{IsMilestoneFor}
use Rattle.prover.specs.Stops.{IsStopOf}
use Rattle.prover.specs.declared.halt.Halt.{Halt}
use Rattle.prover.specs.declared.halt.Halt.TheVariants as halts
use Rattle.prover.specs.declared.halt.ProveFault.{ProveFault}
use Rattle.prover.specs.declared.halt.ProveFault.TheVariants as faults
use Rattle.prover.specs.declared.milestone.Milestone.{Milestone}
use Rattle.prover.specs.declared.task.Task.{Task}

-- the lines of milestones that hold were added to a sink, one after the other
pub record HasTold (Holds : Milestone → Type 0) (line : Milestone → List ℕ) (old new : SinkState) : Type 0 where
  pub told : List Milestone
  pub hold : All Holds told
  pub added : AddsAll (flat_map line told) old new

-- only the first bytes of such lines were added, and then a fault came
pub record HasToldPart (Holds : Milestone → Type 0) (line : Milestone → List ℕ) (old new : SinkState) : Type 0 where
  pub told : List Milestone
  pub hold : All Holds told
  pub added : AddsPart (flat_map line told) old new

-- the same of what holds of a task's directive
abbrev pub HasToldFor : Task → (Directive → Milestone → List ℕ) → SinkState → SinkState → Type 0
HasToldFor task line old new = HasTold (IsMilestoneFor task) (line task.directive.now) old new

abbrev pub HasToldPartFor : Task → (Directive → Milestone → List ℕ) → SinkState → SinkState → Type 0
HasToldPartFor task line old new = HasToldPart (IsMilestoneFor task) (line task.directive.now) old new

-- why a search halts, and what it had told
abbrev pub IsHaltAt : Task → (Directive → Milestone → List ℕ) → SinkState → SinkState → Halt → Type 0
IsHaltAt task line old new (halts.Stopped stop) = IsStopOf task stop × HasToldFor task line old new
IsHaltAt task line old new halts.Unwritten = HasToldPartFor task line old new

-- the same where nothing is found out
abbrev pub IsFaultAt : Task → (Directive → Milestone → List ℕ) → SinkState → SinkState → ProveFault → Type 0
IsFaultAt task line old new faults.Unwritten = HasToldPartFor task line old new
IsFaultAt task line old new faults.NoMemory = HasToldFor task line old new
