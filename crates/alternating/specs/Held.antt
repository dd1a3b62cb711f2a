-- What the program keeps of a sequence while it makes its obligations.
use Rattle.alternating.specs.Stages.{IsStage}
use Rattle.alternating.specs.declared.stage.Stage as code

abbrev pub HasStage : code.Stage → Type 0
HasStage stage = IsStage stage.nfa.now stage.ongoing.now stage.offset
