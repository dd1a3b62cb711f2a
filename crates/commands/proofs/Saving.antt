-- What a run did to the files: what was written after they were read.
use Rattle.std.proofs.Common.{◌≡◌, refl, sym, ◌∙◌, ap, subst, ℕ, List, [], ◌∷◌, map, Option, Some, inl, inr}
use Rattle.std.specs.Prelude.{◌⊎◌, Result, Ok, Err, IfOk, IfErr}
use Rattle.std.specs.Option.{option_map}
use Rattle.psl_base.specs.Faults.{Rose}
use Rattle.psl_base.specs.Shelf.{ShelfState, OnlyReads}
use Rattle.psl_base.specs.Sink.{SinkState, AddsPart}
use Rattle.psl_base.specs.Saves.{NewFile, SavesAll, SavesPart, file_of, with_files}
use Rattle.psl_base.specs.declared.saving.Save.{Save}
use Rattle.command_line.specs.Commands.{Meaning}
use Rattle.command_line.specs.Evidences.{Wanted}
use Rattle.commands.specs.Commands.{IsCommand}
use Rattle.commands.specs.Endings.{EndsFaulted, EndsWith}
use Rattle.commands.specs.Faults.{of_none}
use Rattle.commands.specs.Saved.{AreToWrite, FailsPlanned, FailsToWrite, HasSaved, IsSaved, IsSavedBy, Writes, WritingFails, files_of_outcome, of_command, of_nothing, unprinted, unsaved, wanted_of}
use Rattle.commands.specs.declared.finish.Planned.{Planned}
use Rattle.commands.specs.declared.outcome.Fault.{Fault}
use Rattle.commands.specs.declared.outcome.Outcome.{Outcome}
use Rattle.commands.specs.declared.reason.Reason.TheVariants.{WriteFault, NoMemory}

module _ (old mid new : ShelfState) (kept : OnlyReads old mid) where
  all-earlier : (files : List NewFile) (next : ShelfState) → SavesAll files mid next → SavesAll files old next
  all-earlier files next h = record {
    told = h.told ∙ ap (option_map (with_files files)) kept.told;
    write_faults = h.write_faults ∙ kept.write_faults;
  }

  part-earlier : (files : List NewFile) → SavesPart files mid new → SavesPart files old new
  part-earlier files h = record {
    whole = h.whole;
    next = h.next;
    here = h.here;
    between = h.between;
    before = all-earlier _ h.between h.before;
    part = h.part;
    cause = subst (λ (count : ℕ). Rose count new.write_faults) kept.write_faults h.cause;
  }

  saved-earlier : (files : List NewFile) (fault : Option Fault) → mid.read_faults ≡ old.read_faults → HasSaved files fault mid new → IsSaved files fault old new
  saved-earlier [] fault quiet same = subst (λ (s : ShelfState). OnlyReads old s) (sym same) kept
  saved-earlier (file ∷ files) fault quiet writes = record {
    saved = elim writes.saved [
      | inl all ↦ inl (all-earlier (file ∷ files) new all)
      | inr part ↦ inr (part.0, part-earlier (file ∷ files) part.1)
    ];
    read_faults = writes.read_faults ∙ quiet;
  }

-- what was to be written by the plan is to be written by the words
moved-to : (words : List (List ℕ)) (outcome found : Outcome) (files : List NewFile) → outcome ≡ found → AreToWrite words found files → AreToWrite words outcome files
moved-to words outcome found files same are = subst (λ (o : Outcome). AreToWrite words o files) (sym same) are

pub fails-by : (words : List (List ℕ)) (outcome : Outcome) (old mid new : ShelfState) → OnlyReads old mid → (made : Planned)
    → AreToWrite words made.outcome (map file_of made.saves) → outcome ≡ made.outcome → SavesPart (map file_of made.saves) mid new
    → FailsToWrite words outcome old new
fails-by words outcome old mid new kept made are same part = record {
  files = map file_of made.saves;
  are = moved-to words outcome made.outcome (map file_of made.saves) same are;
  part = part-earlier old mid new kept (map file_of made.saves) part;
}

-- the same of whichever was planned
pub fails-planned : (words : List (List ℕ)) (outcome : Outcome) (fault : Option Fault) (A : Planned → Type 0) (old mid new : ShelfState) (planned : Result Planned Fault)
    → OnlyReads old mid → IfOk planned (λ made. AreToWrite words made.outcome (map file_of made.saves))
    → IfOk planned (λ made. EndsWith made.outcome outcome fault (of_none WriteFault) (A made))
    → FailsPlanned planned mid new → FailsToWrite words outcome old new
fails-planned words outcome fault A old mid new (Ok made) kept are ends part = fails-by words outcome old mid new kept made are ends.outcome_kept part
fails-planned words outcome fault A old mid new (Err f) kept are ends part = absurd part

pub run-saved : (words : List (List ℕ)) (outcome : Outcome) (fault : Option Fault) (A : Planned → Type 0) (B : Type 0) (old mid new : ShelfState)
    (planned : Result Planned Fault) → OnlyReads old mid → IfOk planned (λ _. mid.read_faults ≡ old.read_faults)
    → IfOk planned (λ made. AreToWrite words made.outcome (map file_of made.saves))
    → IfOk planned (λ made. HasSaved (map file_of made.saves) fault mid new) → IfErr planned (λ _. new ≡ mid)
    → IfOk planned (λ made. EndsWith made.outcome outcome fault (of_none WriteFault) (A made))
    → IfErr planned (λ f. EndsFaulted f outcome fault (of_none NoMemory) (of_none WriteFault) B)
    → IsSavedBy words outcome fault old new
run-saved words outcome fault A B old mid new (Ok made) kept quiet are saved _ ends _ = record {
  files = map file_of made.saves;
  are = moved-to words outcome made.outcome (map file_of made.saves) ends.outcome_kept are;
  saved = saved-earlier old mid new kept (map file_of made.saves) fault quiet saved;
}
run-saved words outcome fault A B old mid new (Err f) kept _ _ _ same _ ends = record {
  files = [];
  are = of_nothing ends.no_outcome refl;
  saved = subst (λ (s : ShelfState). OnlyReads old s) (sym same) kept;
}

-- the end of a run that had files to write

saves-none : (saves : List Save) (fault : Option Fault) (old new : ShelfState) → (saves ≡ [] → new ≡ old) → Writes (map file_of saves) fault old new
    → HasSaved (map file_of saves) fault old new
saves-none [] fault old new none writes = none refl
saves-none (save ∷ saves) fault old new none writes = writes

pub saved-whole : (saves : List Save) (fault : Option Fault) (old new : ShelfState) → (saves ≡ [] → new ≡ old) → new.read_faults ≡ old.read_faults
    → SavesAll (map file_of saves) old new → HasSaved (map file_of saves) fault old new
saved-whole saves fault old new none read all = saves-none saves fault old new none record { saved = inl all; read_faults = read }

module _ (saves : List Save) (text : List ℕ) (old new : ShelfState) (out out' : SinkState) where
  pub saved-failed : (fault : Option Fault) → fault ≡ Some (of_none WriteFault) → (saves ≡ [] → new ≡ old) → new.read_faults ≡ old.read_faults
      → WritingFails (map file_of saves) text old new out out' → HasSaved (map file_of saves) fault old new
  saved-failed fault is none read (unsaved part same) = saves-none saves fault old new none record { saved = inr (is, part); read_faults = read }
  saved-failed fault is none read (unprinted all part) = saved-whole saves fault old new none read all

  pub failed-cause : WritingFails (map file_of saves) text old new out out' → Rose out.faults out'.faults ⊎ SavesPart (map file_of saves) old new
  failed-cause (unsaved part same) = inr part
  failed-cause (unprinted all part) = inl part.cause

  pub failed-text : WritingFails (map file_of saves) text old new out out'
      → AddsPart text out out' ⊎ (SavesPart (map file_of saves) old new × (out' ≡ out))
  failed-text (unsaved part same) = inr (part, same)
  failed-text (unprinted all part) = inl part

-- what is planned to be written is what the command asks for
pub planned-to-write : (words : List (List ℕ)) (meaning : Meaning) (outcome : Outcome) (planned : Result Planned Fault) (wanted : Wanted)
    → IsCommand words meaning → wanted ≡ wanted_of meaning → IfOk planned (λ made. made.outcome ≡ outcome)
    → IfOk planned (λ made. map file_of made.saves ≡ files_of_outcome wanted outcome)
    → IfOk planned (λ made. AreToWrite words made.outcome (map file_of made.saves))
planned-to-write words meaning outcome (Ok made) wanted is same found saves =
    of_command meaning is (saves ∙ ap (λ (w : Wanted). files_of_outcome w outcome) same ∙ ap (files_of_outcome (wanted_of meaning)) (sym found))
planned-to-write words meaning outcome (Err f) wanted is same found saves = tt
