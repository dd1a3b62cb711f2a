-- What is told while `prove` works: the lines of `--progress`, and what they say of the contents.
use Rattle.std.specs.Prelude.{◌≡◌, ◌⊎◌, ℕ, Bool, true, false, List, [], ◌++◌, All, Option, Some, Ok, codes, decimal}
use Rattle.command_line.specs.Commands.Meaning.{prove}
use Rattle.command_line.specs.Evidences.{Wanted}
use Rattle.command_line.specs.declared.Limits.{Limits}
use Rattle.findings.specs.Telling.{IsStep, Step, lines_of}
use Rattle.prover.specs.declared.milestone.Milestone.{Milestone}
use Rattle.prover.specs.declared.milestone.Milestone.TheVariants.{NoneWithin, Open, Frames}
use Rattle.psl_base.specs.Shelf.{Contents, ShelfState}
use Rattle.psl_base.specs.Sink.{SinkState, AddsAll, AddsPart}
use Rattle.psl_tree.specs.declared.directive.Directive.{Directive}
use Rattle.psl_tree.specs.declared.directive.Kind.{Kind}
use Rattle.psl_tree.specs.declared.directive.Kind.TheVariants.{Assert, Assume, Cover}
use Rattle.commands.specs.Commands.{IsCommand}
use Rattle.commands.specs.Endings.{Prints}
use Rattle.commands.specs.Faults.{of_none}
use Rattle.commands.specs.Stages.{OfTold}
use Rattle.commands.specs.Text.{head, line_feed}
use Rattle.commands.specs.Waves.{SubjectStage}
use Rattle.commands.specs.declared.outcome.Fault.{Fault}
use Rattle.commands.specs.declared.outcome.Outcome.{Outcome}
use Rattle.commands.specs.declared.outcome.Outcome.TheVariants.{Nothing}
use Rattle.commands.specs.declared.reason.Reason.TheVariants.{WriteFault}
use Rattle.commands.specs.declared.subject.Subject.{Subject}

-- what no run of some size does: it violates an assertion, and meets a cover
abbrev pub against_word : Kind → List ℕ
against_word Assert = codes "violates it"
against_word Assume = codes "violates it"
against_word Cover = codes "meets it"

-- what a milestone says of a directive of this kind
abbrev pub milestone_text : Kind → Milestone → List ℕ
milestone_text kind (NoneWithin size) = codes "no run of up to " ++ decimal size ++ codes " valuations " ++ against_word kind
milestone_text kind (Open window visits) = codes "open at window " ++ decimal window ++ codes " visits " ++ decimal visits
milestone_text kind (Frames visits count) =
    codes "frames " ++ decimal count.frames ++ codes " clauses " ++ decimal count.clauses ++ codes " visits " ++ decimal visits

-- its line, with the head of the directive
abbrev pub milestone_line : Directive → Milestone → List ℕ
milestone_line directive milestone =
    codes "pslc: " ++ head directive.kind directive.number directive.label ++ milestone_text directive.kind milestone ++ line_feed

-- the same where it is asked for, and else none
abbrev pub progress_line : Bool → Directive → Milestone → List ℕ
progress_line true directive milestone = milestone_line directive milestone
progress_line false directive milestone = []

-- each step is of a directive of the text that is asked, and holds of the netlist, as the contents tell them
abbrev pub AreStepsOf : List ℕ → List ℕ → Limits → List Step → Contents → Type 0
AreStepsOf unit netlist limits steps files =
    (subject : Subject) × SubjectStage unit netlist files (Ok subject) × All (IsStep subject.netlist subject.directives limits.covers) steps

-- the lines of such steps were added to the second output while `prove UNIT NETLIST` worked
pub record HasProgress (unit netlist : List ℕ) (limits : Limits) (shelf : ShelfState) (old new : SinkState) : Type 0 where
  pub steps : List Step
  pub hold : OfTold shelf (AreStepsOf unit netlist limits steps)
  pub added : AddsAll (lines_of milestone_line steps) old new

-- only their first bytes were, and then a fault came
pub record LosesProgress (unit netlist : List ℕ) (limits : Limits) (shelf : ShelfState) (old new : SinkState) : Type 0 where
  pub steps : List Step
  pub hold : OfTold shelf (AreStepsOf unit netlist limits steps)
  pub added : AddsPart (lines_of milestone_line steps) old new

-- nothing was added, or such lines were where the limits ask for them
abbrev pub MayHaveProgress : List ℕ → List ℕ → Limits → ShelfState → SinkState → SinkState → Type 0
MayHaveProgress unit netlist limits shelf old new =
    (new ≡ old) ⊎ ((limits.progress ≡ true) × HasProgress unit netlist limits shelf old new)

-- what words have added to the second output before anything is printed: nothing, unless they ask `prove` for it
pub data Progresses (words : List (List ℕ)) (shelf : ShelfState) (old new : SinkState) : Type 0 where
  quiet : new ≡ old → Progresses words shelf old new
  aloud : (unit netlist : List ℕ) (limits : Limits) (wanted : Wanted) → IsCommand words (prove unit netlist limits wanted)
      → limits.progress ≡ true → HasProgress unit netlist limits shelf old new → Progresses words shelf old new

-- the words ask `prove` for it, and it could not be told further
pub data StopsTelling (words : List (List ℕ)) (shelf : ShelfState) (old new : SinkState) : Type 0 where
  lost : (unit netlist : List ℕ) (limits : Limits) (wanted : Wanted) → IsCommand words (prove unit netlist limits wanted)
      → limits.progress ≡ true → LosesProgress unit netlist limits shelf old new → StopsTelling words shelf old new

-- What is added to the two outputs by a run of words: what is told while it works, and behind that what is printed at its
-- end; or, where it could not be told further, nothing else.
pub data PrintsAll (words : List (List ℕ)) (shelf : ShelfState) (Unwritten : Type 0) (WasToBeTold : Fault → Type 0) (outcome : Outcome)
    (fault : Option Fault) (out later err after : SinkState) : Type 0 where
  ended : (mid : SinkState) → Progresses words shelf err mid → Prints Unwritten WasToBeTold outcome fault out later mid after
      → PrintsAll words shelf Unwritten WasToBeTold outcome fault out later err after
  stopped : outcome ≡ Nothing → fault ≡ Some (of_none WriteFault) → later ≡ out → StopsTelling words shelf err after
      → PrintsAll words shelf Unwritten WasToBeTold outcome fault out later err after
