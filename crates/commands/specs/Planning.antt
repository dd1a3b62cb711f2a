-- What is known of a command's answer before anything is written.
use Rattle.std.specs.Prelude.{◌≡◌, ◌≢◌, ◌⊎◌, ℕ, List, Result, IfOk, IfErr, IsErrOf}
use Rattle.psl_base.specs.Shelf.{ShelfState, OnlyReads}
use Rattle.commands.specs.Commands.{FirstRefusal, IsNamed, IsNoCommand, IsOfCommand, IsOutcomeOf}
use Rattle.commands.specs.Endings.{Explained, IsUnwritten}
use Rattle.commands.specs.Faults.{of_none, fault_of}
use Rattle.commands.specs.Stages.{OfTold, IsUnread, IsCounted}
use Rattle.commands.specs.declared.outcome.Fault.{Fault}
use Rattle.commands.specs.declared.outcome.Outcome.{Outcome}
use Rattle.commands.specs.declared.outcome.Outcome.TheVariants.{Nothing}
use Rattle.commands.specs.declared.reason.Reason.TheVariants.{Usage, NoMemory}

-- The result is the answer of a run to these words, where its value tells of an outcome.
pub record IsAnswer {A : Type 0} (outcome_of : A → Outcome) (words : List (List ℕ)) (old new : ShelfState) (result : Result A Fault) : Type 0 where
  -- a fault has its cause and its file; without one, nothing that is told is refused
  pub explained : Explained ⊥ old new (FirstRefusal words) (fault_of result)
  pub no_command : IsNoCommand words → IsErrOf result (of_none Usage) ⊎ IsErrOf result (of_none NoMemory)
  pub named : IfErr result (λ fault. IsNamed words fault)
  pub unread : IfErr result (λ fault. IsUnread new fault)
  pub unwritten : IfErr result (λ fault. IsUnwritten fault)
  -- the outcome is one of the command, and what the contents that are told say
  pub command : IfOk result (λ value. IsOfCommand words (outcome_of value))
  pub outcome : IfOk result (λ value. OfTold old (λ told. IsOutcomeOf words told (outcome_of value)))
  pub found : IfOk result (λ value. outcome_of value ≢ Nothing)
  -- what was done to the files
  pub quiet : IfOk result (λ _. new.read_faults ≡ old.read_faults)
  pub counted : IfErr result (λ fault. IsCounted old new fault)
  pub kept : OnlyReads old new
