-- From the stage of a command, or from words that are none, to the answer of a run.
use Rattle.std.proofs.Common.{◌≡◌, refl, sym, ◌∙◌, ap, subst, ℕ, Bool, List, [], ◌∷◌, Some, inl, inr}
use Rattle.std.specs.Prelude.{◌≢◌, ◌⊎◌, Result, Ok, Err, IfOk, IfErr, is_some}
use Rattle.command_line.specs.Commands.{Meaning}
use Rattle.command_line.specs.Commands.Meaning.{wave, show, show_netlist, gen, prove, check, replay}
use Rattle.command_line.specs.Evidences.{Wanted}
use Rattle.command_line.specs.declared.Unknown.{Unknown}
use Rattle.command_line.specs.declared.Limits.{Limits}
use Rattle.psl_base.specs.Shelf.{Contents, ShelfState}
use Rattle.commands.proofs.Staging.{cause-moved, same_state, none-unread}
use Rattle.commands.specs.Checks.{CheckStage}
use Rattle.commands.specs.Commands.{CommandStage, FirstRefusal, IsCommand, IsNoCommand, IsNamed, IsOfCommand, IsOutcomeOf, MeaningStage, MeaningOutcome, files_of, findings_outcome, replayed_outcome, wave_outcome}
use Rattle.commands.specs.Endings.{Explained, IsUnwritten}
use Rattle.commands.specs.Faults.{of_none}
use Rattle.commands.specs.Generated.{GeneratedStage}
use Rattle.commands.specs.Planning.{IsAnswer}
use Rattle.commands.specs.Provings.{ProveStage}
use Rattle.commands.specs.Replays.{ReplayStage}
use Rattle.commands.specs.Rows.{OfWords, OfReading, OfWriting, OfMemory, cause_of}
use Rattle.commands.specs.Stages.{Then, OfTold, Gives, IsOfFiles, IsOfFilesOrMemory, IsStage, SpeaksOfFile}
use Rattle.commands.specs.Waves.{WaveStage, ShowStage, ShowNetlistStage, unknown_of}
use Rattle.commands.specs.declared.finish.Planned.{Planned}
use Rattle.commands.specs.declared.outcome.CheckedCert.{CheckedCert}
use Rattle.commands.specs.declared.outcome.Fault.{Fault}
use Rattle.commands.specs.declared.outcome.Line.{Line}
use Rattle.commands.specs.declared.outcome.Outcome.{Outcome}
use Rattle.commands.specs.declared.outcome.Outcome.TheVariants.{Nothing, Checked, Shown, Made}
use Rattle.commands.specs.declared.prove.Found.{Found}
use Rattle.commands.specs.declared.replayed.Replayed.{Replayed}
use Rattle.commands.specs.declared.wave.Judgement.{Judgement}
use Rattle.commands.specs.declared.reason.Reason.TheVariants.{Usage, ReadFault, WriteFault, NoMemory}

-- the outcome itself
abbrev pub itself : Outcome → Outcome
itself outcome = outcome

files-unwritten : (names : List (List ℕ)) (fault : Fault) → IsOfFiles names fault → IsUnwritten fault
files-unwritten [] fault h is = absurd h
files-unwritten (name ∷ names) fault (inl t) is = let wrong : cause_of fault.reason ≡ OfWriting = ap cause_of is in subst SpeaksOfFile wrong t.reason
files-unwritten (name ∷ names) fault (inr h) is = files-unwritten names fault h is

memory-unwritten : (fault : Fault) → fault ≡ of_none NoMemory → IsUnwritten fault
memory-unwritten fault e is = let wrong : OfMemory ≡ OfWriting = sym (ap (λ (f : Fault). cause_of f.reason) e) ∙ ap cause_of is in cc

unwritten : (names : List (List ℕ)) (fault : Fault) → IsOfFilesOrMemory names fault → IsUnwritten fault
unwritten names fault (inl e) = memory-unwritten fault e
unwritten names fault (inr h) = files-unwritten names fault h

no-memory : NoMemory ≢ ReadFault
no-memory e = let wrong : OfMemory ≡ OfReading = ap cause_of e in cc

module _ (words : List (List ℕ)) (meaning : Meaning) (is : IsCommand words meaning) (old new : ShelfState) where
  named : (fault : Fault) → IsOfFilesOrMemory (files_of meaning) fault → IsNamed words fault
  named fault (inl e) = inr (inr (inl e))
  named fault (inr h) = inr (inr (inr (meaning, is, h)))

  -- A stage whose values are made into outcomes: `runs` says that this is what the command gives.
  module _ {A : Type 0} (Stage : Contents → Result A Fault → Type 0) (outcome : A → Outcome)
      (runs : (files : Contents) (result : Result Outcome Fault) → Then Stage (λ value _ r. r ≡ Ok (outcome value)) files result → MeaningStage meaning files result) where
    ran : (files : Contents) (result : Result Outcome Fault) → Then Stage (λ value _ r. r ≡ Ok (outcome value)) files result → CommandStage words files result
    ran files result h = inr (meaning, is, runs files result h)

    refused : (files : Contents) (fault : Fault) → Stage files (Err fault) → FirstRefusal words files (Some fault)
    refused files fault h = (Err fault, ran files (Err fault) (inl (fault, h, refl)), refl)

    found-out : (value : A) → Gives old Stage value → (files : Contents) → old.told ≡ Some files → CommandStage words files (Ok (outcome value))
    found-out value gives files told = ran files (Ok (outcome value)) (inr (value, gives files told, refl))

    pub stage-answers : (value : A) → MeaningOutcome meaning (outcome value) → (outcome value ≢ Nothing) → IsStage (files_of meaning) Stage old new (Ok value)
        → IsAnswer itself words old new (Ok (outcome value))
    stage-answers value kind some s = record {
      explained = λ files told. (Ok (outcome value), found-out value s.gives files told, refl);
      no_command = λ none. absurd (none meaning is);
      named = tt;
      unread = tt;
      unwritten = tt;
      command = inr (meaning, is, kind);
      outcome = λ files told. inr (found-out value s.gives files told);
      found = some;
      quiet = s.quiet;
      counted = tt;
      kept = s.kept;
    }

    pub stage-refuses : (fault : Fault) → IsStage (files_of meaning) Stage old new (Err fault) → IsAnswer itself words old new (Err fault)
    stage-refuses fault s = record {
      explained = cause-moved (cause_of fault.reason) ⊥ old old new (λ files. Stage files (Err fault)) (λ files. FirstRefusal words files (Some fault)) (same_state old)
          (λ files told h. refused files fault h) (λ e files h. refused files fault h) s.refuses;
      no_command = λ none. absurd (none meaning is);
      named = named fault s.named;
      unread = s.unread;
      unwritten = unwritten (files_of meaning) fault s.named;
      command = tt;
      outcome = tt;
      found = tt;
      quiet = tt;
      counted = s.counted;
      kept = s.kept;
    }

-- want of memory is an answer to all words
pub memory-answers : (words : List (List ℕ)) (old : ShelfState) (fault : Fault) → fault ≡ of_none NoMemory → IsAnswer itself words old old (Err fault)
memory-answers words old fault e = record {
  explained = subst (λ (f : Fault). Explained ⊥ old old (FirstRefusal words) (Some f)) (sym e) tt;
  no_command = λ none. inr (ap Err e);
  named = inr (inr (inl e));
  unread = none-unread old NoMemory fault no-memory e;
  unwritten = memory-unwritten fault e;
  command = tt;
  outcome = tt;
  found = tt;
  quiet = tt;
  counted = inl refl;
  kept = same_state old;
}

-- a fault is the answer whatever would have been found out
pub refused-answers : {A : Type 0} (of : A → Outcome) (words : List (List ℕ)) (old new : ShelfState) (fault : Fault) → IsAnswer itself words old new (Err fault)
    → IsAnswer of words old new (Err fault)
refused-answers of words old new fault a = record {
  explained = a.explained;
  no_command = λ none. elim (a.no_command none) [ inl e ↦ inl (ap Err (let same : fault ≡ of_none Usage = cc in same)) | inr e ↦ inr (ap Err (let same : fault ≡ of_none NoMemory = cc in same)) ];
  named = a.named;
  unread = a.unread;
  unwritten = a.unwritten;
  command = tt;
  outcome = tt;
  found = tt;
  quiet = tt;
  counted = a.counted;
  kept = a.kept;
}

-- words that are no command

no-usage-read : Usage ≢ ReadFault
no-usage-read e = let wrong : OfWords ≡ OfReading = ap cause_of e in cc

no-usage-write : Usage ≢ WriteFault
no-usage-write e = let wrong : OfWords ≡ OfWriting = ap cause_of e in cc

pub words-answer : (words : List (List ℕ)) (old : ShelfState) (fault : Fault) → fault ≡ of_none Usage → IsNoCommand words → IsAnswer itself words old old (Err fault)
words-answer words old fault e none = record {
  explained = subst (λ (f : Fault). Explained ⊥ old old (FirstRefusal words) (Some f)) (sym e) (λ files. (Err (of_none Usage), inl (none, refl), refl));
  no_command = λ _. inl (ap Err e);
  named = inl e;
  unread = none-unread old Usage fault no-usage-read e;
  unwritten = λ is. no-usage-write (sym (ap (λ (f : Fault). f.reason) e) ∙ is);
  command = tt;
  outcome = tt;
  found = tt;
  quiet = tt;
  counted = inl refl;
  kept = same_state old;
}

-- the commands

pub wave-answers : (words : List (List ℕ)) (unit recording : List ℕ) (unknown : Unknown) (points : Bool) (old new : ShelfState) (judged : Judgement)
    → is_some judged.settled ≡ points → IsCommand words (wave unit recording unknown points)
    → IsStage (unit ∷ recording ∷ []) (WaveStage unit recording (unknown_of unknown) points) old new (Ok judged) → IsAnswer itself words old new (Ok (wave_outcome judged))
wave-answers words unit recording unknown points old new judged asked is s =
    stage-answers words (wave unit recording unknown points) is old new (WaveStage unit recording (unknown_of unknown) points) wave_outcome (λ files result h. h) judged (judged, refl, asked) (λ e. cc) s

pub wave-refuses : (words : List (List ℕ)) (unit recording : List ℕ) (unknown : Unknown) (points : Bool) (old new : ShelfState) (fault : Fault)
    → IsCommand words (wave unit recording unknown points)
    → IsStage (unit ∷ recording ∷ []) (WaveStage unit recording (unknown_of unknown) points) old new (Err fault) → IsAnswer itself words old new (Err fault)
wave-refuses words unit recording unknown points old new fault is s =
    stage-refuses words (wave unit recording unknown points) is old new (WaveStage unit recording (unknown_of unknown) points) wave_outcome (λ files result h. h) fault s

pub show-answers : (words : List (List ℕ)) (unit names : List ℕ) (old new : ShelfState) (lines : List Line) → IsCommand words (show unit names)
    → IsStage (unit ∷ names ∷ []) (ShowStage unit names) old new (Ok lines) → IsAnswer itself words old new (Ok (Shown lines))
show-answers words unit names old new lines is s =
    stage-answers words (show unit names) is old new (ShowStage unit names) Shown (λ files result h. h) lines (lines, refl) (λ e. cc) s

pub show-refuses : (words : List (List ℕ)) (unit names : List ℕ) (old new : ShelfState) (fault : Fault) → IsCommand words (show unit names)
    → IsStage (unit ∷ names ∷ []) (ShowStage unit names) old new (Err fault) → IsAnswer itself words old new (Err fault)
show-refuses words unit names old new fault is s =
    stage-refuses words (show unit names) is old new (ShowStage unit names) Shown (λ files result h. h) fault s

pub netlist-answers : (words : List (List ℕ)) (unit netlist : List ℕ) (old new : ShelfState) (lines : List Line) → IsCommand words (show_netlist unit netlist)
    → IsStage (unit ∷ netlist ∷ []) (ShowNetlistStage unit netlist) old new (Ok lines) → IsAnswer itself words old new (Ok (Shown lines))
netlist-answers words unit netlist old new lines is s =
    stage-answers words (show_netlist unit netlist) is old new (ShowNetlistStage unit netlist) Shown (λ files result h. h) lines (lines, refl) (λ e. cc) s

pub netlist-refuses : (words : List (List ℕ)) (unit netlist : List ℕ) (old new : ShelfState) (fault : Fault) → IsCommand words (show_netlist unit netlist)
    → IsStage (unit ∷ netlist ∷ []) (ShowNetlistStage unit netlist) old new (Err fault) → IsAnswer itself words old new (Err fault)
netlist-refuses words unit netlist old new fault is s =
    stage-refuses words (show_netlist unit netlist) is old new (ShowNetlistStage unit netlist) Shown (λ files result h. h) fault s

pub proof-answers : (words : List (List ℕ)) (unit netlist : List ℕ) (limits : Limits) (wanted : Wanted) (old new : ShelfState) (found : Found) → IsCommand words (prove unit netlist limits wanted)
    → IsStage (unit ∷ netlist ∷ []) (ProveStage unit netlist limits wanted) old new (Ok found) → IsAnswer itself words old new (Ok (findings_outcome limits found))
proof-answers words unit netlist limits wanted old new found is s =
    stage-answers words (prove unit netlist limits wanted) is old new (ProveStage unit netlist limits wanted) (findings_outcome limits) (λ files result h. h) found (found, refl) (λ e. cc) s

pub proof-refuses : (words : List (List ℕ)) (unit netlist : List ℕ) (limits : Limits) (wanted : Wanted) (old new : ShelfState) (fault : Fault) → IsCommand words (prove unit netlist limits wanted)
    → IsStage (unit ∷ netlist ∷ []) (ProveStage unit netlist limits wanted) old new (Err fault) → IsAnswer itself words old new (Err fault)
proof-refuses words unit netlist limits wanted old new fault is s =
    stage-refuses words (prove unit netlist limits wanted) is old new (ProveStage unit netlist limits wanted) (findings_outcome limits) (λ files result h. h) fault s

pub check-answers : (words : List (List ℕ)) (unit netlist : List ℕ) (number : ℕ) (certificate : List ℕ) (old new : ShelfState) (answer : CheckedCert)
    → IsCommand words (check unit netlist number certificate)
    → IsStage (unit ∷ netlist ∷ certificate ∷ []) (CheckStage unit netlist number certificate) old new (Ok answer) → IsAnswer itself words old new (Ok (Checked number answer))
check-answers words unit netlist number certificate old new answer is s =
    stage-answers words (check unit netlist number certificate) is old new (CheckStage unit netlist number certificate) (Checked number) (λ files result h. h)
    answer (answer, refl) (λ e. cc) s

pub check-refuses : (words : List (List ℕ)) (unit netlist : List ℕ) (number : ℕ) (certificate : List ℕ) (old new : ShelfState) (fault : Fault)
    → IsCommand words (check unit netlist number certificate)
    → IsStage (unit ∷ netlist ∷ certificate ∷ []) (CheckStage unit netlist number certificate) old new (Err fault) → IsAnswer itself words old new (Err fault)
check-refuses words unit netlist number certificate old new fault is s =
    stage-refuses words (check unit netlist number certificate) is old new (CheckStage unit netlist number certificate) (Checked number) (λ files result h. h) fault s

pub replay-answers : (words : List (List ℕ)) (unit netlist recording : List ℕ) (old new : ShelfState) (found : Replayed) → IsCommand words (replay unit netlist recording)
    → IsStage (unit ∷ netlist ∷ recording ∷ []) (ReplayStage unit netlist recording) old new (Ok found) → IsAnswer itself words old new (Ok (replayed_outcome found))
replay-answers words unit netlist recording old new found is s =
    stage-answers words (replay unit netlist recording) is old new (ReplayStage unit netlist recording) replayed_outcome (λ files result h. h) found (found, refl) (λ e. cc) s

pub replay-refuses : (words : List (List ℕ)) (unit netlist recording : List ℕ) (old new : ShelfState) (fault : Fault) → IsCommand words (replay unit netlist recording)
    → IsStage (unit ∷ netlist ∷ recording ∷ []) (ReplayStage unit netlist recording) old new (Err fault) → IsAnswer itself words old new (Err fault)
replay-refuses words unit netlist recording old new fault is s =
    stage-refuses words (replay unit netlist recording) is old new (ReplayStage unit netlist recording) replayed_outcome (λ files result h. h) fault s

made-some : (seed samples : ℕ) (outcome : Outcome) → GeneratedStage seed samples (Ok outcome) → outcome ≢ Nothing
made-some seed samples outcome (verdicts, are, e) is =
    let wrong : Ok Nothing ≡ Ok (Made seed samples _ verdicts) = ap Ok (sym is) ∙ e in cc

pub gen-answers : (words : List (List ℕ)) (seed samples : ℕ) (old : ShelfState) (result : Result Outcome Fault) → IsCommand words (gen seed samples)
    → IfOk result (λ outcome. GeneratedStage seed samples (Ok outcome)) → IfErr result (λ fault. fault ≡ of_none NoMemory) → IsAnswer itself words old old result
gen-answers words seed samples old (Ok outcome) is made memory = record {
  explained = λ files told. (Ok outcome, inr (gen seed samples, is, made), refl);
  no_command = λ none. absurd (none (gen seed samples) is);
  named = tt;
  unread = tt;
  unwritten = tt;
  command = inr (gen seed samples, is, made);
  outcome = λ files told. inr (inr (gen seed samples, is, made));
  found = made-some seed samples outcome made;
  quiet = refl;
  counted = tt;
  kept = same_state old;
}
gen-answers words seed samples old (Err fault) is made memory = memory-answers words old fault memory

-- an answer with its text

pub made-answers : (words : List (List ℕ)) (old new : ShelfState) (outcome : Outcome) (planned : Result Planned Fault) → IsAnswer itself words old new (Ok outcome)
    → IfOk planned (λ made. made.outcome ≡ outcome) → IfErr planned (λ fault. fault ≡ of_none NoMemory)
    → IsAnswer (λ (made : Planned). made.outcome) words old new planned
made-answers words old new outcome (Ok made) a same memory = record {
  explained = a.explained;
  no_command = λ none. elim (a.no_command none) [ inl e ↦ cc | inr e ↦ cc ];
  named = tt;
  unread = tt;
  unwritten = tt;
  command = subst (IsOfCommand words) (sym same) a.command;
  outcome = subst (λ (o : Outcome). OfTold old (λ told. IsOutcomeOf words told o)) (sym same) a.outcome;
  found = λ e. a.found (sym same ∙ e);
  quiet = a.quiet;
  counted = tt;
  kept = a.kept;
}
made-answers words old new outcome (Err fault) a same memory = record {
  explained = subst (λ (f : Fault). Explained ⊥ old new (FirstRefusal words) (Some f)) (sym memory) tt;
  no_command = λ none. inr (ap Err memory);
  named = inr (inr (inl memory));
  unread = none-unread new NoMemory fault no-memory memory;
  unwritten = memory-unwritten fault memory;
  command = tt;
  outcome = tt;
  found = tt;
  quiet = tt;
  counted = inl a.quiet;
  kept = a.kept;
}

-- what is no command, or cannot be read, is the answer to words
pub no-command-answers : {A : Type 0} (of : A → Outcome) (words : List (List ℕ)) (old : ShelfState) (fault : Fault)
    → (fault ≡ of_none NoMemory) ⊎ ((fault ≡ of_none Usage) × IsNoCommand words) → IsAnswer of words old old (Err fault)
no-command-answers of words old fault (inl memory) = refused-answers of words old old fault (memory-answers words old fault memory)
no-command-answers of words old fault (inr usage) = refused-answers of words old old fault (words-answer words old fault usage.0 usage.1)
