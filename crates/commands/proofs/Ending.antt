-- How a run ended, by what was planned and what was written: whose its fault is, what it found out, and its status.
use Rattle.std.proofs.Common.{◌≡◌, refl, sym, ◌∙◌, ap, subst, ℕ, ◌<◌, List, [], ◌∷◌, map, Option, None, Some, arith, inl, inr}
use Rattle.std.specs.Prelude.{◌⊎◌, Result, Ok, Err, IfOk, IfErr, IfSome}
use Rattle.psl_base.specs.Shelf.{ShelfState, OnlyReads}
use Rattle.psl_base.specs.Sink.{SinkState}
use Rattle.commands.proofs.Staging.{none-unread}
use Rattle.commands.specs.Commands.{FirstRefusal, HadToTell, IsNamed, IsOfCommand, IsOutcomeOf}
use Rattle.commands.specs.Endings.{status_of, Explained, AddsText, IsToTell, IsUnwritten, Prints, PrintsFault, EndsWith, EndsFaulted, IsDeviceStatus}
use Rattle.commands.specs.Faults.{of_none, fault_of}
use Rattle.commands.specs.Rows.{Cause, OfWords, OfReading, OfWriting, OfText, OfMemory, cause_of, reason_status}
use Rattle.commands.specs.Saved.{HasSaved}
use Rattle.commands.specs.Stages.{OfTold, IsUnread, IsCounted}
use Rattle.commands.specs.declared.finish.Planned.{Planned}
use Rattle.commands.specs.declared.outcome.Fault.{Fault}
use Rattle.commands.specs.declared.outcome.Outcome.{Outcome}
use Rattle.commands.specs.declared.outcome.Outcome.TheVariants.{Nothing}
use Rattle.commands.specs.declared.reason.Reason.{Reason}
use Rattle.commands.specs.declared.reason.Reason.TheVariants.{Usage, ReadFault, WriteFault, NoMemory}
use Rattle.psl_base.specs.Saves.{NewFile, file_of}

-- a fault of writing alone has its cause
of_writing : (reason : Reason) → cause_of reason ≡ OfWriting → reason ≡ WriteFault
of_writing WriteFault e = refl
of_writing Usage e = absurd (let wrong : OfWords ≡ OfWriting = e in cc)
of_writing ReadFault e = absurd (let wrong : OfReading ≡ OfWriting = e in cc)
of_writing NoMemory e = absurd (let wrong : OfMemory ≡ OfWriting = e in cc)
of_writing _ e = absurd (let wrong : OfText ≡ OfWriting = e in cc)

-- a line that was told raises no count
told-still : (U : Type 0) (P : Fault → Type 0) (cause : Cause) (outcome : Outcome) (fault : Fault) (out later err after : SinkState) → (cause ≡ OfWriting → ⊥)
    → PrintsFault cause U P outcome fault out later err after → (later.faults ≡ out.faults) × (after.faults ≡ err.faults)
told-still U P OfWriting outcome fault out later err after other h = absurd (other refl)
told-still U P OfWords outcome fault out later err after other h = (ap (λ (s : SinkState). s.faults) h.0, h.1.faults)
told-still U P OfReading outcome fault out later err after other h = (ap (λ (s : SinkState). s.faults) h.0, h.1.faults)
told-still U P OfText outcome fault out later err after other h = (ap (λ (s : SinkState). s.faults) h.0, h.1.faults)
told-still U P OfMemory outcome fault out later err after other h = (ap (λ (s : SinkState). s.faults) h.0, h.1.faults)

-- what is known of the fault whose line was to be printed may be known less well
text-weaker : (U V : Type 0) → (U → V) → (outcome : Outcome) (out later : SinkState) → AddsText U outcome out later → AddsText V outcome out later
text-weaker U V u outcome out later (inl part) = inl part
text-weaker U V u outcome out later (inr (fails, still)) = inr (u fails, still)

fault-weaker : (U V : Type 0) → (U → V) → (P Q : Fault → Type 0) → ((f : Fault) → P f → Q f) → (cause : Cause) (outcome : Outcome) (fault : Fault)
    (out later err after : SinkState) → PrintsFault cause U P outcome fault out later err after → PrintsFault cause V Q outcome fault out later err after
fault-weaker U V u P Q w OfWriting outcome fault out later err after (inl h) = inl (text-weaker U V u outcome out later h.0, h.1)
fault-weaker U V u P Q w OfWriting outcome fault out later err after (inr (still, told)) = inr (still, (told.0, w told.0 told.1, told.2))
fault-weaker U V u P Q w OfWords outcome fault out later err after h = h
fault-weaker U V u P Q w OfReading outcome fault out later err after h = h
fault-weaker U V u P Q w OfText outcome fault out later err after h = h
fault-weaker U V u P Q w OfMemory outcome fault out later err after h = h

pub prints-weaker : (U V : Type 0) → (U → V) → (P Q : Fault → Type 0) → ((f : Fault) → P f → Q f) → (outcome : Outcome) (fault : Option Fault) (out later err after : SinkState)
    → Prints U P outcome fault out later err after → Prints V Q outcome fault out later err after
prints-weaker U V u P Q w outcome None out later err after h = h
prints-weaker U V u P Q w outcome (Some fault) out later err after h = fault-weaker U V u P Q w (cause_of fault.reason) outcome fault out later err after h

-- a fault that was to be told after planning is one that the run had to tell
pub had-to-tell : (words : List (List ℕ)) (old mid new : ShelfState) (planned : Result Planned Fault) → IfErr planned (λ _. new ≡ mid)
    → Explained ⊥ old mid (FirstRefusal words) (fault_of planned) → (fault : Fault) → IsToTell (fault_of planned) fault → HadToTell words old new fault
had-to-tell words old mid new planned still explained fault (inr e) = subst (λ (f : Fault). Explained ⊥ old new (FirstRefusal words) (Some f)) (sym e) tt
had-to-tell words old mid new (Ok made) still explained fault (inl e) = absurd (let wrong : None ≡ Some fault = e in cc)
had-to-tell words old mid new (Err f) still explained fault (inl e) =
    subst (λ (s : ShelfState). Explained ⊥ old s (FirstRefusal words) (Some fault)) (sym still)
    (subst (Explained ⊥ old mid (FirstRefusal words)) e explained)

module _ (A : Planned → Type 0) (B : Type 0) (outcome : Outcome) (fault : Option Fault) where
  pub run-named : (words : List (List ℕ)) (planned : Result Planned Fault) → IfErr planned (λ f. IsNamed words f)
      → IfOk planned (λ made. EndsWith made.outcome outcome fault (of_none WriteFault) (A made))
      → IfErr planned (λ f. EndsFaulted f outcome fault (of_none NoMemory) (of_none WriteFault) B)
      → IfSome fault (IsNamed words)
  run-named words (Ok made) _ ends _ =
      elim ends.fault_is [
        | inl e ↦ subst (λ o. IfSome o (IsNamed words)) (sym e) tt
        | inr w ↦ subst (λ o. IfSome o (IsNamed words)) (sym w.0) (inr (inl refl))
      ]
  run-named words (Err f) named _ ends =
      elim ends.fault_is [
        | inl e ↦ subst (λ o. IfSome o (IsNamed words)) (sym e) named
        | inr other ↦ (elim other [
          | inl e ↦ subst (λ o. IfSome o (IsNamed words)) (sym e) (inr (inr (inl refl)))
          | inr w ↦ subst (λ o. IfSome o (IsNamed words)) (sym w.0) (inr (inl refl))
        ])
      ]

  no-writing : (WriteFault ≡ ReadFault) → ⊥
  no-writing e = let wrong : OfWriting ≡ OfReading = ap cause_of e in cc

  no-memory : (NoMemory ≡ ReadFault) → ⊥
  no-memory e = let wrong : OfMemory ≡ OfReading = ap cause_of e in cc

  pub run-unread : (mid new : ShelfState) (planned : Result Planned Fault) → IfErr planned (λ _. new ≡ mid) → IfErr planned (λ f. IsUnread mid f)
      → IfOk planned (λ made. EndsWith made.outcome outcome fault (of_none WriteFault) (A made))
      → IfErr planned (λ f. EndsFaulted f outcome fault (of_none NoMemory) (of_none WriteFault) B)
      → IfSome fault (λ f. IsUnread new f)
  run-unread mid new (Ok made) _ _ ends _ =
      elim ends.fault_is [
        | inl e ↦ subst (λ o. IfSome o (IsUnread new)) (sym e) tt
        | inr w ↦ subst (λ o. IfSome o (IsUnread new)) (sym w.0) (none-unread new WriteFault (of_none WriteFault) no-writing refl)
      ]
  run-unread mid new (Err f) still unread _ ends =
      elim ends.fault_is [
        | inl e ↦ subst (λ o. IfSome o (IsUnread new)) (sym e) (subst (λ (s : ShelfState). IsUnread s f) (sym still) unread)
        | inr other ↦ (elim other [
          | inl e ↦ subst (λ o. IfSome o (IsUnread new)) (sym e) (none-unread new NoMemory (of_none NoMemory) no-memory refl)
          | inr w ↦ subst (λ o. IfSome o (IsUnread new)) (sym w.0) (none-unread new WriteFault (of_none WriteFault) no-writing refl)
        ])
      ]

  -- what was found out is what was planned, or nothing
  pub run-command : (words : List (List ℕ)) (planned : Result Planned Fault) → IfOk planned (λ made. IsOfCommand words made.outcome)
      → IfOk planned (λ made. EndsWith made.outcome outcome fault (of_none WriteFault) (A made))
      → IfErr planned (λ f. EndsFaulted f outcome fault (of_none NoMemory) (of_none WriteFault) B)
      → IsOfCommand words outcome
  run-command words (Ok made) is ends _ = subst (IsOfCommand words) (sym ends.outcome_kept) is
  run-command words (Err f) _ _ ends = inl ends.no_outcome

  pub run-outcome : (words : List (List ℕ)) (old : ShelfState) (planned : Result Planned Fault) → IfOk planned (λ made. OfTold old (λ told. IsOutcomeOf words told made.outcome))
      → IfOk planned (λ made. EndsWith made.outcome outcome fault (of_none WriteFault) (A made))
      → IfErr planned (λ f. EndsFaulted f outcome fault (of_none NoMemory) (of_none WriteFault) B)
      → OfTold old (λ told. IsOutcomeOf words told outcome)
  run-outcome words old (Ok made) is ends _ = subst (λ (o : Outcome). OfTold old (λ told. IsOutcomeOf words told o)) (sym ends.outcome_kept) is
  run-outcome words old (Err f) _ _ ends = λ files told. inl ends.no_outcome

  -- with a fault nothing was found out, unless it is of writing
  abbrev FoundNothing : Fault → Type 0
  FoundNothing f = (f.reason ≡ WriteFault) ⊎ (outcome ≡ Nothing)

  pub run-nothing : (planned : Result Planned Fault)
      → IfOk planned (λ made. EndsWith made.outcome outcome fault (of_none WriteFault) (A made))
      → IfErr planned (λ f. EndsFaulted f outcome fault (of_none NoMemory) (of_none WriteFault) B)
      → IfSome fault (λ f. (f.reason ≡ WriteFault) ⊎ (outcome ≡ Nothing))
  run-nothing (Ok made) ends _ =
      elim ends.fault_is [
        | inl e ↦ subst (λ o. IfSome o FoundNothing) (sym e) tt
        | inr w ↦ subst (λ o. IfSome o FoundNothing) (sym w.0) (inl refl)
      ]
  run-nothing (Err f) _ ends =
      elim ends.fault_is [
        | inl e ↦ subst (λ o. IfSome o FoundNothing) (sym e) (inr ends.no_outcome)
        | inr other ↦ (elim other [
          | inl e ↦ subst (λ o. IfSome o FoundNothing) (sym e) (inr ends.no_outcome)
          | inr w ↦ subst (λ o. IfSome o FoundNothing) (sym w.0) (inl refl)
        ])
      ]

-- files that were written whole raise no count
still-saved : (files : List NewFile) (fault : Option Fault) (mid new : ShelfState) → fault ≡ None → HasSaved files fault mid new
    → (new.read_faults ≡ mid.read_faults) × (new.write_faults ≡ mid.write_faults)
still-saved [] fault mid new none same = (ap (λ (s : ShelfState). s.read_faults) same, ap (λ (s : ShelfState). s.write_faults) same)
still-saved (file ∷ files) fault mid new none writes =
    elim writes.saved [
      | inl all ↦ (writes.read_faults, all.write_faults)
      | inr part ↦ absurd (let wrong : None ≡ Some (of_none WriteFault) = sym none ∙ part.0 in cc)
    ]

module _ (A : Planned → Type 0) (B U : Type 0) (P : Fault → Type 0) (outcome : Outcome) (fault : Option Fault) (status : ℕ) (is : status ≡ status_of outcome fault) where
  status-of : (f : Fault) (n : ℕ) → fault ≡ Some f → reason_status f.reason ≡ n → status ≡ n
  status-of f n e is_n = is ∙ ap (status_of outcome) e ∙ is_n

  -- a count that rose: of reading, of writing, of the output, of the error
  abbrev Rises : ShelfState → ShelfState → SinkState → SinkState → SinkState → SinkState → Type 0
  Rises old new out out' err err' =
      (old.read_faults < new.read_faults) ⊎ ((old.write_faults < new.write_faults) ⊎ ((out.faults < out'.faults) ⊎ (err.faults < err'.faults)))

  no-rise : (old new : ShelfState) (out out' err err' : SinkState) → new.read_faults ≡ old.read_faults → new.write_faults ≡ old.write_faults
      → out'.faults ≡ out.faults → err'.faults ≡ err.faults → Rises old new out out' err err' → ⊥
  no-rise old new out out' err err' r w a b (inl lt) = omega arith
  no-rise old new out out' err err' r w a b (inr (inl lt)) = omega arith
  no-rise old new out out' err err' r w a b (inr (inr (inl lt))) = omega arith
  no-rise old new out out' err err' r w a b (inr (inr (inr lt))) = omega arith

  had-counted : (old mid : ShelfState) (out out' err err' : SinkState) (f : Fault) → OnlyReads old mid → IsUnwritten f → fault ≡ Some f → IsCounted old mid f
      → PrintsFault (cause_of f.reason) U P outcome f out out' err err' → Rises old mid out out' err err' → IsDeviceStatus status
  had-counted old mid out out' err err' f kept unwritten e (inl still) prints rises =
      let told = told-still U P (cause_of f.reason) outcome f out out' err err' (λ w. unwritten (of_writing f.reason w)) prints in
      absurd (no-rise old mid out out' err err' still kept.write_faults told.0 told.1 rises)
  had-counted old mid out out' err err' f kept unwritten e (inr (inl reading)) prints rises = inl (status-of f 3 e (ap reason_status reading))
  had-counted old mid out out' err err' f kept unwritten e (inr (inr memory)) prints rises = inr (inr (status-of f 8 e (ap reason_status memory)))

  pub run-counted : (old mid new : ShelfState) (out out' err err' : SinkState) (planned : Result Planned Fault) → OnlyReads old mid
      → IfOk planned (λ _. mid.read_faults ≡ old.read_faults) → IfErr planned (λ f. IsCounted old mid f) → IfErr planned (λ f. IsUnwritten f)
      → IfOk planned (λ made. HasSaved (map file_of made.saves) fault mid new) → IfErr planned (λ _. new ≡ mid)
      → IfOk planned (λ made. EndsWith made.outcome outcome fault (of_none WriteFault) (A made))
      → IfErr planned (λ f. EndsFaulted f outcome fault (of_none NoMemory) (of_none WriteFault) B)
      → Prints U P outcome fault out out' err err'
      → (old.read_faults < new.read_faults) ⊎ ((old.write_faults < new.write_faults) ⊎ ((out.faults < out'.faults) ⊎ (err.faults < err'.faults))) → IsDeviceStatus status
  run-counted old mid new out out' err err' (Ok made) kept quiet _ _ saved _ ends _ prints rises =
      elim ends.fault_is [
        | inl e ↦ (let p : Prints U P outcome None out out' err err' = subst (λ o. Prints U P outcome o out out' err err') e prints in
            let still = still-saved (map file_of made.saves) fault mid new e saved in
            absurd (no-rise old new out out' err err' (still.0 ∙ quiet) (still.1 ∙ kept.write_faults) p.0.faults (ap (λ (s : SinkState). s.faults) p.1) rises))
        | inr w ↦ inr (inl (status-of (of_none WriteFault) 4 w.0 refl))
      ]
  run-counted old mid new out out' err err' (Err f) kept _ counted unwritten _ same _ ends prints rises =
      elim ends.fault_is [
        | inl e ↦ had-counted old mid out out' err err' f kept unwritten e counted (subst (λ o. Prints U P outcome o out out' err err') e prints)
            (subst (λ (s : ShelfState). Rises old s out out' err err') same rises)
        | inr other ↦ (elim other [
          | inl e ↦ inr (inr (status-of (of_none NoMemory) 8 e refl))
          | inr w ↦ inr (inl (status-of (of_none WriteFault) 4 w.0 refl))
        ])
      ]
