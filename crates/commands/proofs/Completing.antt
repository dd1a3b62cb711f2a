-- Why a run ended as it did, and that where nothing fails the answer is the first refusal.
use Rattle.std.proofs.Common.{◌≡◌, refl, sym, ◌∙◌, subst, ℕ, List, map, Option, None, Some, inl, inr}
use Rattle.std.specs.Prelude.{◌⊎◌, Result, Ok, Err, IfOk, IfErr}
use Rattle.psl_base.specs.Faults.{Rose}
use Rattle.psl_base.specs.Shelf.{Contents, ShelfState, OnlyReads}
use Rattle.psl_base.specs.Saves.{SavesPart, file_of}
use Rattle.commands.proofs.Saving.{fails-by}
use Rattle.commands.specs.Commands.{FirstRefusal}
use Rattle.commands.specs.Endings.{Explained, IsOutOfMemory, EndsWith, EndsFaulted}
use Rattle.commands.specs.Faults.{of_none, fault_of}
use Rattle.commands.specs.Rows.{Cause, OfWords, OfReading, OfWriting, OfText, OfMemory, cause_of}
use Rattle.commands.specs.Saved.{AreToWrite, FailsToWrite}
use Rattle.commands.specs.Stages.{HasCause}
use Rattle.commands.specs.declared.finish.Planned.{Planned}
use Rattle.commands.specs.declared.outcome.Fault.{Fault}
use Rattle.commands.specs.declared.outcome.Outcome.{Outcome}
use Rattle.commands.specs.declared.reason.Reason.{Reason}
use Rattle.commands.specs.declared.reason.Reason.TheVariants.{Usage, ReadFault, WriteFault, NoMemory}

-- want of memory alone has its cause
of_memory : (reason : Reason) → cause_of reason ≡ OfMemory → reason ≡ NoMemory
of_memory NoMemory e = refl
of_memory Usage e = absurd (let wrong : OfWords ≡ OfMemory = e in cc)
of_memory ReadFault e = absurd (let wrong : OfReading ≡ OfMemory = e in cc)
of_memory WriteFault e = absurd (let wrong : OfWriting ≡ OfMemory = e in cc)
of_memory _ e = absurd (let wrong : OfText ≡ OfMemory = e in cc)

module _ (X : Type 0) (old new : ShelfState) (R : Contents → Option Fault → Type 0) (told : Contents) (tells : old.told ≡ Some told)
    (read : Rose old.read_faults new.read_faults → ⊥) (written : X → ⊥) where
  stands : (fault : Fault) (cause : Cause) → cause ≡ cause_of fault.reason → HasCause cause X old new (λ files. R files (Some fault))
      → R told (Some fault) ⊎ IsOutOfMemory (Some fault)
  stands fault OfWords e h = inl (h told)
  stands fault OfReading e (inl rose) = absurd (read rose)
  stands fault OfReading e (inr (files, told', h)) =
      let same : files ≡ told = (let whole : Some files ≡ Some told = sym told' ∙ tells in cc) in
      inl (subst (λ (c : Contents). R c (Some fault)) same h)
  stands fault OfWriting e x = absurd (written x)
  stands fault OfText e h = inl (h told tells)
  stands fault OfMemory e h = inr (of_memory fault.reason (sym e))

  pub completes : (fault : Option Fault) → Explained X old new R fault → R told fault ⊎ IsOutOfMemory fault
  completes None h = inl (h told tells)
  completes (Some fault) h = stands fault (cause_of fault.reason) refl h

-- a run's fault has its cause, by what was planned and how it ended

weaken : (X : Type 0) (old new : ShelfState) (R : Contents → Type 0) (cause : Cause) → HasCause cause ⊥ old new R → HasCause cause X old new R
weaken X old new R OfWords h = h
weaken X old new R OfReading h = h
weaken X old new R OfWriting h = absurd h
weaken X old new R OfText h = h
weaken X old new R OfMemory h = h

module _ (A B : Type 0) (words : List (List ℕ)) (old mid new : ShelfState) (outcome : Outcome) (fault : Option Fault) where
  abbrev WriteCause : Type 0
  WriteCause = A ⊎ (B ⊎ FailsToWrite words outcome old new)

  abbrev Why : Option Fault → Type 0
  Why f = Explained WriteCause old new (FirstRefusal words) f

  written-why : OnlyReads old mid → (made : Planned) → AreToWrite words made.outcome (map file_of made.saves) → outcome ≡ made.outcome
      → A ⊎ SavesPart (map file_of made.saves) mid new → WriteCause
  written-why kept made are same (inl a) = inl a
  written-why kept made are same (inr part) = inr (inr (fails-by words outcome old mid new kept made are same part))

  pub run-explained : (planned : Result Planned Fault) → OnlyReads old mid → Explained ⊥ old mid (FirstRefusal words) (fault_of planned)
      → IfOk planned (λ made. AreToWrite words made.outcome (map file_of made.saves)) → IfErr planned (λ _. new ≡ mid)
      → IfOk planned (λ made. EndsWith made.outcome outcome fault (of_none WriteFault) (A ⊎ SavesPart (map file_of made.saves) mid new))
      → IfErr planned (λ f. EndsFaulted f outcome fault (of_none NoMemory) (of_none WriteFault) B)
      → Explained WriteCause old new (FirstRefusal words) fault
  run-explained (Ok made) kept why are _ ends _ =
      elim ends.fault_is [
        | inl e ↦ subst Why (sym e) why
        | inr w ↦ subst Why (sym w.0) (written-why kept made are ends.outcome_kept w.1)
      ]
  run-explained (Err f) kept why _ same _ ends =
      elim ends.fault_is [
        | inl e ↦ subst Why (sym e) (subst (λ (s : ShelfState). Explained WriteCause old s (FirstRefusal words) (Some f)) (sym same)
            (weaken WriteCause old mid (λ files. FirstRefusal words files (Some f)) (cause_of f.reason) why))
        | inr other ↦ (elim other [ inl e ↦ subst Why (sym e) tt | inr w ↦ subst Why (sym w.0) (inr (inl w.1)) ])
      ]

-- where no count rose, nothing failed in writing
pub no-cause : (A B : Type 0) (words : List (List ℕ)) (outcome : Outcome) (old new : ShelfState) → (A → ⊥) → (B → ⊥)
    → (Rose old.write_faults new.write_faults → ⊥) → A ⊎ (B ⊎ FailsToWrite words outcome old new) → ⊥
no-cause A B words outcome old new a b written (inl h) = a h
no-cause A B words outcome old new a b written (inr (inl h)) = b h
no-cause A B words outcome old new a b written (inr (inr fails)) = written fails.part.cause
