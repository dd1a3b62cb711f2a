-- What is told while `prove` works, by what was read and by the words.
use Rattle.std.proofs.Common.{◌≡◌, refl, ap, ◌∙◌, ℕ, Bool, true, false, List, [], ◌∷◌, length, inl, inr, arith}
use Rattle.std.specs.Prelude.{Result, Ok, Err, OnErr}
use Rattle.command_line.specs.Commands.Meaning.{prove}
use Rattle.command_line.specs.Evidences.{Wanted}
use Rattle.command_line.specs.declared.Limits.{Limits}
use Rattle.findings.specs.Telling.{HaveTold, HaveToldPart, Step, lines_of}
use Rattle.prover.proofs.Voicing.{with-none}
use Rattle.psl_base.specs.Faults.{Rose}
use Rattle.psl_base.specs.Shelf.{ShelfState}
use Rattle.psl_base.specs.Sink.{SinkState, AddsAll, with_bytes}
use Rattle.commands.proofs.Staging.{none-unread}
use Rattle.commands.specs.Commands.{IsCommand}
use Rattle.commands.specs.Faults.{of_none}
use Rattle.commands.specs.Progress.{LosesProgress, MayHaveProgress, Progresses, StopsTelling, aloud, lost, progress_line, quiet}
use Rattle.commands.specs.Rows.{OfReading, OfWriting, cause_of}
use Rattle.commands.specs.Stages.{Gives, IsUnread}
use Rattle.commands.specs.Waves.{SubjectStage}
use Rattle.commands.specs.declared.outcome.Fault.{Fault}
use Rattle.commands.specs.declared.reason.Reason.TheVariants.{WriteFault}
use Rattle.commands.specs.declared.subject.Subject.{Subject}

-- lines that are not asked for are none
no-lines : (steps : List Step) → lines_of (progress_line false) steps ≡ []
no-lines [] = refl
no-lines (step ∷ steps) = no-lines steps

same-sink : (old new : SinkState) (text : List ℕ) → text ≡ [] → AddsAll text old new → new ≡ old
same-sink old new text none adds =
    let written : new.written ≡ old.written =
    adds.written ∙ ap (λ (bytes : List ℕ). with_bytes bytes old.written) none ∙ with-none old.written in
    λ i. record { written = written i; faults = adds.faults i }

module _ (unit netlist : List ℕ) (limits : Limits) (shelf : ShelfState) (subject : Subject) (gives : Gives shelf (SubjectStage unit netlist) subject)
    (old new : SinkState) where
  told-by : (asked : Bool) → limits.progress ≡ asked → HaveTold subject.netlist subject.directives limits.covers (progress_line asked) old new
      → MayHaveProgress unit netlist limits shelf old new
  told-by true is h = inr (is, record { steps = h.steps; hold = λ files told. (subject, gives files told, h.hold); added = h.added })
  told-by false is h = inl (same-sink old new (lines_of (progress_line false) h.steps) (no-lines h.steps) h.added)

  pub progress-told : HaveTold subject.netlist subject.directives limits.covers (progress_line limits.progress) old new
      → MayHaveProgress unit netlist limits shelf old new
  progress-told h = told-by limits.progress refl h

  lost-by : (asked : Bool) → limits.progress ≡ asked → HaveToldPart subject.netlist subject.directives limits.covers (progress_line asked) old new
      → (limits.progress ≡ true) × LosesProgress unit netlist limits shelf old new
  lost-by true is h = (is, record { steps = h.steps; hold = λ files told. (subject, gives files told, h.hold); added = h.added })
  lost-by false is h = absurd (omega (arith, h.added.within, ap length (no-lines h.steps)))

  pub progress-lost : HaveToldPart subject.netlist subject.directives limits.covers (progress_line limits.progress) old new
      → (limits.progress ≡ true) × LosesProgress unit netlist limits shelf old new
  progress-lost h = lost-by limits.progress refl h

module _ (words : List (List ℕ)) (unit netlist : List ℕ) (limits : Limits) (wanted : Wanted) (is : IsCommand words (prove unit netlist limits wanted))
    (shelf : ShelfState) (old new : SinkState) where
  pub words-progress : MayHaveProgress unit netlist limits shelf old new → Progresses words shelf old new
  words-progress (inl same) = quiet same
  words-progress (inr (asked, h)) = aloud unit netlist limits wanted is asked h

  pub words-lose : (limits.progress ≡ true) × LosesProgress unit netlist limits shelf old new → StopsTelling words shelf old new
  words-lose (asked, h) = lost unit netlist limits wanted is asked h

-- a line that is told raises no count, and one that is lost does
pub progress-faults : (words : List (List ℕ)) (shelf : ShelfState) (old new : SinkState) → Progresses words shelf old new → new.faults ≡ old.faults
progress-faults words shelf old new (quiet same) = ap (λ (s : SinkState). s.faults) same
progress-faults words shelf old new (aloud unit netlist limits wanted is asked h) = h.added.faults

pub lost-rose : (words : List (List ℕ)) (shelf : ShelfState) (old new : SinkState) → StopsTelling words shelf old new → Rose old.faults new.faults
lost-rose words shelf old new (lost unit netlist limits wanted is asked h) = h.added.cause

pub on-err : {A E : Type 0} (result : Result A E) {P Q : Type 0} → (P → Q) → OnErr result P → OnErr result Q
on-err (Ok _) into h = tt
on-err (Err _) into h = into h

pub on-err-too : {A E : Type 0} (result : Result A E) {P : Type 0} → P → OnErr result P
on-err-too (Ok _) h = tt
on-err-too (Err _) h = h

-- a fault of writing names no file that was selected
pub write-unread : (shelf : ShelfState) (fault : Fault) → fault ≡ of_none WriteFault → IsUnread shelf fault
write-unread shelf fault is = none-unread shelf WriteFault fault (λ e. let wrong : OfWriting ≡ OfReading = ap cause_of e in cc) is
