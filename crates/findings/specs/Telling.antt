-- What is told while findings are sought: the lines of milestones of directives that are asked.
use Rattle.std.specs.Prelude.{◌≡◌, ℕ, Bool as Truth, true, List, All}
use Rattle.std.specs.List.{flat_map, Contains}
use Rattle.netlist.specs.Design.{Design}
use Rattle.owed.specs.Owed.{is_asked}
use Rattle.prover.specs.Milestones.{IsMilestone}
use Rattle.prover.specs.Telling.{HasTold, HasToldPart}
use Rattle.prover.specs.declared.halt.ProveFault.{ProveFault}
use Rattle.prover.specs.declared.halt.ProveFault.TheVariants as faults
use Rattle.prover.specs.declared.milestone.Milestone.{Milestone}
use Rattle.psl_base.specs.Sink.{SinkState, AddsAll, AddsPart}
use Rattle.psl_tree.specs.declared.directive.Directive.{Directive}

-- a directive, and what is told of it
abbrev pub Step : Type 0
Step = Directive × Milestone

-- a directive of the text that is asked, and a milestone that holds of it
pub record IsStep (design : Design) (unit : List Directive) (covers : Truth) (step : Step) : Type 0 where
  pub directive : Contains unit step.0
  pub asked : is_asked covers step.0.kind ≡ true
  pub holds : IsMilestone design unit step.0 step.1

-- the lines of steps, in order
abbrev pub lines_of : (Directive → Milestone → List ℕ) → List Step → List ℕ
lines_of line steps = flat_map (λ step. line step.0 step.1) steps

-- the lines of such steps were added to a sink
pub record HaveTold (design : Design) (unit : List Directive) (covers : Truth) (line : Directive → Milestone → List ℕ) (old new : SinkState) : Type 0 where
  pub steps : List Step
  pub hold : All (IsStep design unit covers) steps
  pub added : AddsAll (lines_of line steps) old new

-- only their first bytes were, and then a fault came
pub record HaveToldPart (design : Design) (unit : List Directive) (covers : Truth) (line : Directive → Milestone → List ℕ) (old new : SinkState) : Type 0 where
  pub steps : List Step
  pub hold : All (IsStep design unit covers) steps
  pub added : AddsPart (lines_of line steps) old new

-- why nothing is found out of one directive, and what had been told of it
abbrev pub IsEntryFault : Design → List Directive → Directive → (Directive → Milestone → List ℕ) → SinkState → SinkState → ProveFault → Type 0
IsEntryFault design unit directive line old new faults.Unwritten = HasToldPart (IsMilestone design unit directive) (line directive) old new
IsEntryFault design unit directive line old new faults.NoMemory = HasTold (IsMilestone design unit directive) (line directive) old new

-- why there are no findings, and what had been told
abbrev pub IsProveFault : Design → List Directive → Truth → (Directive → Milestone → List ℕ) → SinkState → SinkState → ProveFault → Type 0
IsProveFault design unit covers line old new faults.Unwritten = HaveToldPart design unit covers line old new
IsProveFault design unit covers line old new faults.NoMemory = HaveTold design unit covers line old new
