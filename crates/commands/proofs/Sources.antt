-- A recording or a netlist that is read, or refused, is its stage gone through.
use Rattle.std.proofs.Common.{◌≡◌, sym, ◌∙◌, ap, subst, ℕ, ◌<◌, ◌≤◌, List, [], ◌∷◌, length, Some, Ok, Err, inl, inr}
use Rattle.std.proofs.Math.Nat.{eq-or-lt_of_le}
use Rattle.std.specs.Prelude.{◌⊎◌, ◌≢◌, Result}
use Rattle.psl_base.specs.Places.{file_limit}
use Rattle.psl_base.specs.Shelf.{Contents, ShelfState, OnlyReads, IsLonger, ReadingFails, SelectsNoOther}
use Rattle.commands.proofs.Composing.{stage-unloaded}
use Rattle.commands.proofs.Staging.{IsTold, told-cause, of-content, of-text, other-unread}
use Rattle.commands.specs.Faults.{fault_in, of_none, whole}
use Rattle.commands.specs.Rows.{Cause, OfReading, OfText, cause_of}
use Rattle.commands.specs.Stages.{HasCause, IsCounted, IsStage, LoadFails, OfFile, ToldBy, for_memory, unread, longer}
use Rattle.commands.specs.declared.outcome.Fault.{Fault}
use Rattle.commands.specs.declared.reason.Diagnostic.{Diagnostic}
use Rattle.commands.specs.declared.reason.Reason.TheVariants.{ReadFault, TooLong, NoMemory}

-- what a fact of a content is where the contents are told: the name is there, and its content is no longer than a file
-- may be
abbrev pub OfReadContent : ShelfState → List ℕ → (List ℕ → Type 0) → Type 0
OfReadContent shelf name Fact =
    (contents : Contents) → shelf.told ≡ Some contents → (content : List ℕ) × (contents name ≡ Some content) × (length content ≤ file_limit) × Fact content

module _ {A F : Type 0} (diagnostic : F → Diagnostic) (IsValue : List ℕ → A → Type 0) (IsFault : List ℕ → F → Type 0) (name : List ℕ) (old new : ShelfState) where
  abbrev pub Reading : List ℕ → Result A Fault → Type 0
  Reading content = ToldBy name diagnostic (IsValue content) (IsFault content)

  -- why a reader gives no value
  pub data Fails (cause : F) : Type 0 where
    by_text : cause_of (diagnostic cause).reason ≡ OfText → OfReadContent old name (λ content. IsFault content cause) → Fails cause
    by_length : diagnostic cause ≡ whole TooLong → IsLonger file_limit old name → Fails cause
    by_device : diagnostic cause ≡ whole ReadFault → ReadingFails name old new → SelectsNoOther name new → Fails cause
    by_memory : (diagnostic cause).reason ≡ NoMemory → Fails cause

  module _ (kept : OnlyReads old new) where
    pub source-given : (value : A) → OfReadContent old name (λ content. IsValue content value) → new.read_faults ≡ old.read_faults
        → IsStage (name ∷ []) (OfFile Reading name) old new (Ok value)
    source-given value says quiet = record {
      gives = λ files told. let k = says files told in of-content Reading name files k.0 (Ok value) k.1 k.2 k.3;
      refuses = tt;
      named = tt;
      unread = tt;
      quiet = quiet;
      counted = tt;
      kept = kept;
    }

    unloaded : (fault : Fault) → IsCounted old new fault → LoadFails name old new fault → IsStage (name ∷ []) (OfFile Reading name) old new (Err fault)
    unloaded fault counted fails = stage-unloaded Reading name old new fault fails counted kept

    -- a fault of the text
    of-source : (cause : F) (fault : Fault) → IsCounted old new fault → OfReadContent old name (λ content. IsFault content cause)
        → cause_of (diagnostic cause).reason ≡ OfText → ((diagnostic cause).reason ≢ NoMemory) × (fault ≡ fault_in name (diagnostic cause))
        → IsStage (name ∷ []) (OfFile Reading name) old new (Err fault)
    of-source cause fault counted says is (other, e) =
        let of : cause_of fault.reason ≡ OfText = ap (λ (f : Fault). cause_of f.reason) e ∙ is in
        record {
          gives = tt;
          refuses = subst (λ (c : Cause). HasCause c ⊥ old new (λ files. OfFile Reading name files (Err fault))) (sym of)
              (λ files told. let k = says files told in of-content Reading name files k.0 (Err fault) k.1 k.2 (cause, k.3, other, e));
          named = inr (inl (of-text name fault of (ap (λ (f : Fault). f.file) e) (λ _. ap (λ (f : Fault). f.signal) e)));
          unread = other-unread new fault (λ reads. let wrong : OfText ≡ OfReading = sym of ∙ ap cause_of reads in cc);
          quiet = tt;
          counted = counted;
          kept = kept;
        }

    -- what is told of a fault tells of a count that rose
    told-counted : (cause : F) (fault : Fault) → (old.read_faults < new.read_faults → (diagnostic cause).reason ≡ ReadFault) → IsTold name diagnostic cause fault
        → IsCounted old new fault
    told-counted cause fault rose (inl e) = inr (inr (ap (λ (f : Fault). f.reason) e))
    told-counted cause fault rose (inr (_, e)) =
        elim (eq-or-lt_of_le kept.read_faults) [
          | inl same ↦ inl (sym same)
          | inr lt ↦ inr (inl (ap (λ (f : Fault). f.reason) e ∙ rose lt))
        ]

    refused : (cause : F) (fault : Fault) → Fails cause → IsCounted old new fault → IsTold name diagnostic cause fault
        → IsStage (name ∷ []) (OfFile Reading name) old new (Err fault)
    refused cause fault fails counted (inl e) = unloaded fault counted (for_memory e)
    refused cause fault (by_text is says) counted (inr told) = of-source cause fault counted says is told
    refused cause fault (by_length is long) counted (inr told) = unloaded fault counted (longer (told.1 ∙ ap (fault_in name) is) long)
    refused cause fault (by_device is fails last) counted (inr told) = unloaded fault counted (unread (told.1 ∙ ap (fault_in name) is) fails last)
    refused cause fault (by_memory is) counted (inr told) = absurd (told.0 is)

    pub source-refused : (cause : F) (fault : Fault) → Fails cause → (old.read_faults < new.read_faults → (diagnostic cause).reason ≡ ReadFault)
        → (said : Diagnostic) → said ≡ diagnostic cause → (fault ≡ of_none NoMemory) ⊎ ((said.reason ≢ NoMemory) × (fault ≡ fault_in name said))
        → IsStage (name ∷ []) (OfFile Reading name) old new (Err fault)
    source-refused cause fault fails rose said e h =
        let told : IsTold name diagnostic cause fault = told-cause name diagnostic cause fault said e h in
        refused cause fault fails (told-counted cause fault rose told) told
