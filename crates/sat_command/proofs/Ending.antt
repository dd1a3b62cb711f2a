-- How a run ended, by what was planned and what was written and printed: its fault has its cause, and its files and outputs
-- have what they are to have.
use Rattle.std.proofs.Common.{◌≡◌, refl, sym, ◌∙◌, ap, subst, ℕ, ◌<◌, List, [], ◌∷◌, map, Option, None, Some, arith, inl, inr}
use Rattle.std.specs.Prelude.{◌⊎◌, codes, IfSome, OnErr, OnOk, Result, Err, Ok}
use Rattle.std.specs.Option.{option_map}
use Rattle.psl_base.specs.Faults.{Rose}
use Rattle.psl_base.specs.Saves.{NewFile, SavesAll, SavesPart, file_of, with_files}
use Rattle.psl_base.specs.Shelf.{ShelfState, OnlyReads, OnlyWrites}
use Rattle.psl_base.specs.Sink.{SinkState, AddsAll, AddsPart}
use Rattle.psl_base.specs.declared.outside.Failed.{Failed}
use Rattle.psl_base.specs.declared.saving.Save.{Save}
use Rattle.cdcl.specs.declared.answer.Answer.{Answer}
use Rattle.sat_command.specs.Endings.{AddsSome, IsCause, IsDeviceStatus, IsOfWriting, IsToTell, EndsWith, EndsFaulted, Prints, status_of, told, unmade, unprinted, unsaved, untold, whole}
use Rattle.sat_command.specs.Refusals.{IsCounted, IsRefusal, IsUnwritten}
use Rattle.sat_command.specs.Requests.{Asked}
use Rattle.sat_command.specs.Saved.{IsSaved, files_of}
use Rattle.sat_command.specs.Text.{line_of}
use Rattle.sat_command.specs.declared.report.Fault.{Fault}
use Rattle.sat_command.specs.declared.report.Fault.TheVariants as faults

-- what is printed, where more is known of a fault that had to be told
pub prints-weaker : (asked : Option Asked) (P Q : Fault → Type 0) → ((f : Fault) → P f → Q f) → (answer : Option Answer) (fault : Option Fault)
    (out out' err err' : SinkState) → Prints asked P answer fault out out' err err' → Prints asked Q answer fault out out' err err'
prints-weaker asked P Q w answer None out out' err err' h = h
prints-weaker asked P Q w None (Some faults.CannotPrint) out out' err err' h = (h.0, (h.1.0, w h.1.0 h.1.1, h.1.2))
prints-weaker asked P Q w (Some found) (Some faults.CannotPrint) out out' err err' h = h
prints-weaker asked P Q w answer (Some faults.CannotWrite) out out' err err' h = h
prints-weaker asked P Q w answer (Some faults.Usage) out out' err err' h = h
prints-weaker asked P Q w answer (Some faults.CannotRead) out out' err err' h = h
prints-weaker asked P Q w answer (Some faults.TooLong) out out' err err' h = h
prints-weaker asked P Q w answer (Some (faults.Format fault)) out out' err err' h = h
prints-weaker asked P Q w answer (Some faults.NoMemory) out out' err err' h = h

-- reading changes nothing that is written
module _ (old mid new : ShelfState) (kept : OnlyReads old mid) where
  all-earlier : (files : List NewFile) (next : ShelfState) → SavesAll files mid next → SavesAll files old next
  all-earlier files next h = record {
    told = h.told ∙ ap (option_map (with_files files)) kept.told;
    write_faults = h.write_faults ∙ kept.write_faults;
  }

  part-earlier : (files : List NewFile) → SavesPart files mid new → SavesPart files old new
  part-earlier files h = record {
    whole = h.whole;
    next = h.next;
    here = h.here;
    between = h.between;
    before = all-earlier _ h.between h.before;
    part = h.part;
    cause = subst (λ (count : ℕ). Rose count new.write_faults) kept.write_faults h.cause;
  }

-- A run that had an answer.
module _ (asked : Option Asked) (made : Answer) (answer : Option Answer) (is : answer ≡ Some made) (saves : List Save)
    (planned : map file_of saves ≡ files_of asked (Some made)) (old mid new : ShelfState) (kept : OnlyReads old mid)
    (quiet : mid.read_faults ≡ old.read_faults) (writes : OnlyWrites mid new) (out-rose : Type 0) (fault : Option Fault)
    (ends : EndsWith (map file_of saves) mid new out-rose fault) where
  same-files : map file_of saves ≡ files_of asked answer
  same-files = planned ∙ ap (files_of asked) (sym is)

  pub answer-cause : (err-rose : Type 0) → IfSome fault (IsCause asked answer old new (out-rose ⊎ err-rose))
  answer-cause err-rose =
      elim ends [
        | whole e all ↦ subst (λ (f : Option Fault). IfSome f (IsCause asked answer old new (out-rose ⊎ err-rose))) (sym e) tt
        | unprinted e all rose ↦ subst (λ (f : Option Fault). IfSome f (IsCause asked answer old new (out-rose ⊎ err-rose))) (sym e) (inl rose)
        | unsaved e part ↦
            subst (λ (f : Option Fault). IfSome f (IsCause asked answer old new (out-rose ⊎ err-rose))) (sym e)
            (subst (λ (files : List NewFile). SavesPart files old new) same-files (part-earlier old mid new kept (map file_of saves) part))
      ]

  saved-by : (saves : List Save) → (saves ≡ [] → new ≡ mid) → EndsWith (map file_of saves) mid new out-rose fault → IsSaved (map file_of saves) fault old new
  saved-by [] none ended = subst (λ (s : ShelfState). OnlyReads old s) (sym (none refl)) kept
  saved-by (save ∷ saves) none (whole e all) = record {
    saved = inl (all-earlier old mid new kept _ new all);
    read_faults = writes.read_faults ∙ quiet;
  }
  saved-by (save ∷ saves) none (unprinted e all rose) = record {
    saved = inl (all-earlier old mid new kept _ new all);
    read_faults = writes.read_faults ∙ quiet;
  }
  saved-by (save ∷ saves) none (unsaved e part) = record {
    saved = inr (e, part-earlier old mid new kept _ part);
    read_faults = writes.read_faults ∙ quiet;
  }

  pub answer-saved : (saves ≡ [] → new ≡ mid) → IsSaved (files_of asked answer) fault old new
  answer-saved none = subst (λ (files : List NewFile). IsSaved files fault old new) same-files (saved-by saves none ends)

  module _ (P : Fault → Type 0) (out out' err err' : SinkState) where
    -- what was told without a fault raised no count
    answer-still : (answer : Option Answer) → Prints asked P answer None out out' err err' → (out'.faults ≡ out.faults) × (err'.faults ≡ err.faults)
    answer-still None h = absurd h
    answer-still (Some found) h = (h.0.faults, ap (λ (s : SinkState). s.faults) h.1)

    no-rise : (files : List NewFile) → SavesAll files mid new → (out'.faults ≡ out.faults) × (err'.faults ≡ err.faults)
        → (old.read_faults < new.read_faults) ⊎ ((old.write_faults < new.write_faults) ⊎ ((out.faults < out'.faults) ⊎ (err.faults < err'.faults))) → ⊥
    no-rise files all still (inl rose) = omega (arith, writes.read_faults, quiet)
    no-rise files all still (inr (inl rose)) = omega (arith, all.write_faults, kept.write_faults)
    no-rise files all still (inr (inr (inl rose))) = omega (arith, still.0)
    no-rise files all still (inr (inr (inr rose))) = omega (arith, still.1)

    pub answer-counted : (status : ℕ) → status ≡ status_of answer fault → Prints asked P answer fault out out' err err'
        → (old.read_faults < new.read_faults) ⊎ ((old.write_faults < new.write_faults) ⊎ ((out.faults < out'.faults) ⊎ (err.faults < err'.faults)))
        → IsDeviceStatus status
    answer-counted status s printed rose =
        elim ends [
          | whole e all ↦
              absurd (no-rise (map file_of saves) all (answer-still answer (subst (λ (f : Option Fault). Prints asked P answer f out out' err err') e printed)) rose)
          | unprinted e all r ↦ inr (inl (s ∙ ap (status_of answer) e))
          | unsaved e part ↦ inr (inl (s ∙ ap (status_of answer) e))
        ]

-- what is told where writing failed
writing-line : (asked : Option Asked) (fault : Fault) → IsOfWriting fault → codes "sat: write fault\n" ≡ line_of asked fault
writing-line asked fault (inl e) = subst (λ (f : Fault). codes "sat: write fault\n" ≡ line_of asked f) (sym e) refl
writing-line asked fault (inr e) = subst (λ (f : Fault). codes "sat: write fault\n" ≡ line_of asked f) (sym e) refl

pub tells-some : (asked : Option Asked) (fault : Fault) → IsOfWriting fault → (result : Result (Unit {0}) Failed) (old new : SinkState)
    → OnOk result (AddsAll (codes "sat: write fault\n") old new) → OnErr result (AddsPart (codes "sat: write fault\n") old new)
    → AddsSome (line_of asked fault) old new
tells-some asked fault is (Ok _) old new all part = inl (subst (λ (line : List ℕ). AddsAll line old new) (writing-line asked fault is) all)
tells-some asked fault is (Err _) old new all part = inr (subst (λ (line : List ℕ). AddsPart line old new) (writing-line asked fault is) part)

-- A run that had none.

-- want of memory may come at any time
memory-refusal : (asked : Option Asked) (old new : ShelfState) → IsRefusal asked old new faults.NoMemory
memory-refusal None old new = inr refl
memory-refusal (Some asked) old new = tt

-- a line that was told raised no count
fault-still : (asked : Option Asked) (P : Fault → Type 0) (answer : Option Answer) (fault : Fault) (out err err' : SinkState) → IsUnwritten fault
    → Prints asked P answer (Some fault) out out err err' → err'.faults ≡ err.faults
fault-still asked P answer faults.Usage out err err' other h = h.1.faults
fault-still asked P answer faults.CannotRead out err err' other h = h.1.faults
fault-still asked P answer faults.TooLong out err err' other h = h.1.faults
fault-still asked P answer (faults.Format fault) out err err' other h = h.1.faults
fault-still asked P answer faults.CannotWrite out err err' other h = absurd (other.of_file refl)
fault-still asked P answer faults.CannotPrint out err err' other h = absurd (other.of_output refl)
fault-still asked P answer faults.NoMemory out err err' other h = h.1.faults

module _ (asked : Option Asked) (answer : Option Answer) (had : Fault) (other : IsUnwritten had) (old new : ShelfState) (refused : IsRefusal asked old new had)
    (err-rose : Type 0) (fault : Option Fault) (ends : EndsFaulted had err-rose fault) where
  -- each fault that was to be told had to be
  pub had-to-tell : (f : Fault) → IsToTell had f → IsRefusal asked old new f
  had-to-tell f (inl e) = subst (IsRefusal asked old new) (sym e) refused
  had-to-tell f (inr e) = subst (IsRefusal asked old new) (sym e) (memory-refusal asked old new)

  module _ (kept : OnlyReads old new) (counted : IsCounted old new had) (P : Fault → Type 0) (out err err' : SinkState) where
    -- where the fault was told
    told-counted : (status : ℕ) → status ≡ status_of answer (Some had) → err'.faults ≡ err.faults
        → (old.read_faults < new.read_faults) ⊎ ((old.write_faults < new.write_faults) ⊎ ((out.faults < out.faults) ⊎ (err.faults < err'.faults)))
        → IsDeviceStatus status
    told-counted status s still (inl rose) =
        elim counted [
          | inl same ↦ absurd (omega (arith, same))
          | inr e ↦ inl (s ∙ ap (λ (f : Fault). status_of answer (Some f)) e)
        ]
    told-counted status s still (inr (inl rose)) = absurd (omega (arith, kept.write_faults))
    told-counted status s still (inr (inr (inl rose))) = absurd (omega arith)
    told-counted status s still (inr (inr (inr rose))) = absurd (omega (arith, still))

    pub fault-counted : (status : ℕ) → status ≡ status_of answer fault → Prints asked P answer fault out out err err'
        → (old.read_faults < new.read_faults) ⊎ ((old.write_faults < new.write_faults) ⊎ ((out.faults < out.faults) ⊎ (err.faults < err'.faults)))
        → IsDeviceStatus status
    fault-counted status s printed rose =
        elim ends [
          | told e ↦ told-counted status (s ∙ ap (status_of answer) e)
              (fault-still asked P answer had out err err' other (subst (λ (f : Option Fault). Prints asked P answer f out out err err') e printed)) rose
          | unmade e ↦ inr (inr (s ∙ ap (status_of answer) e))
          | untold e r ↦ inr (inl (s ∙ ap (status_of answer) e))
        ]
