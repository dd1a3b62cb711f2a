-- Stages one after the other: what they give over the contents that are told, and why they refuse.
use Rattle.std.proofs.Common.{◌≡◌, refl, sym, ◌∙◌, ap, subst, ℕ, ◌<◌, ◌≤◌, List, [], ◌∷◌, length, Option, None, Some, Ok, Err, arith, inl, inr}
use Rattle.std.specs.Prelude.{◌⊎◌, ◌≢◌, Result, IfErr}
use Rattle.psl_base.specs.Places.{file_limit}
use Rattle.psl_base.specs.Shelf.{Contents, ShelfState, OnlyReads, IsContent}
use Rattle.commands.specs.Faults.{fault_in, of_file, of_none}
use Rattle.commands.specs.Rows.{Cause, OfWords, OfReading, OfWriting, OfText, OfMemory, cause_of}
use Rattle.commands.specs.Stages.{SpeaksOfFile, AndThen, Then, ToldBy, OfContent, OfFile, HasCause, Gives, Refuses, IsOfFile, IsOfFiles, IsOfFilesOrMemory, IsUnread, LoadFails, for_memory, unread, longer, TextFails, IsReading}
use Rattle.commands.specs.declared.outcome.Fault.{Fault}
use Rattle.commands.specs.declared.reason.Diagnostic.{Diagnostic}
use Rattle.commands.specs.declared.reason.Reason.{Reason}
use Rattle.commands.specs.declared.reason.Reason.TheVariants.{ReadFault, TooLong, MissingSignal, NoMemory}

-- a cause for a weaker refusal, seen from an earlier state with the same contents
pub cause-moved : (cause : Cause) (W : Type 0) (old mid new : ShelfState) (P Q : Contents → Type 0) → OnlyReads old mid
    → ((files : Contents) → old.told ≡ Some files → P files → Q files) → (cause ≡ OfWords → (files : Contents) → P files → Q files)
    → HasCause cause W mid new P → HasCause cause W old new Q
cause-moved OfWords W old mid new P Q reads told words h = λ files. words refl files (h files)
cause-moved OfReading W old mid new P Q reads told words (inl rose) = inl (omega (arith, reads.read_faults))
cause-moved OfReading W old mid new P Q reads told words (inr (files, is, h)) =
    let was : old.told ≡ Some files = sym reads.told ∙ is in inr (files, was, told files was h)
cause-moved OfWriting W old mid new P Q reads told words h = h
cause-moved OfText W old mid new P Q reads told words h = λ files is. told files is (h files (reads.told ∙ is))
cause-moved OfMemory W old mid new P Q reads told words h = tt

pub same_state : (old : ShelfState) → OnlyReads old old
same_state old = record { told = refl; created = refl; write_faults = refl; read_faults = omega arith }

module _ {A B : Type 0} (First : Contents → Result A Fault → Type 0) (Next : A → Contents → Result B Fault → Type 0) where
  pub then-gives : (old mid : ShelfState) (a : A) (b : B) → Gives old First a → OnlyReads old mid → Gives mid (Next a) b → Gives old (Then First Next) b
  then-gives old mid a b first reads next = λ files is. inr (a, first files is, next files (reads.told ∙ is))

  pub first-refuses : (old new : ShelfState) (fault : Fault) → Refuses old new First fault → Refuses old new (Then First Next) fault
  first-refuses old new fault h =
      cause-moved (cause_of fault.reason) ⊥ old old new (λ files. First files (Err fault)) (λ files. Then First Next files (Err fault)) (same_state old)
      (λ files is p. inl (fault, p, refl)) (λ e files p. inl (fault, p, refl)) h

  -- the second stage's fault is none of the words
  pub next-refuses : (old mid new : ShelfState) (a : A) (fault : Fault) → Gives old First a → OnlyReads old mid → (cause_of fault.reason ≡ OfWords → ⊥)
      → Refuses mid new (Next a) fault → Refuses old new (Then First Next) fault
  next-refuses old mid new a fault first reads no_words h =
      cause-moved (cause_of fault.reason) ⊥ old mid new (λ files. Next a files (Err fault)) (λ files. Then First Next files (Err fault)) reads
      (λ files is p. inr (a, first files is, p)) (λ e files p. absurd (no_words e)) h

-- files

module _ {A : Type 0} (Reading : List ℕ → Result A Fault → Type 0) (name : List ℕ) where
  pub of-content : (files : Contents) (content : List ℕ) (result : Result A Fault) → files name ≡ Some content → length content ≤ file_limit → Reading content result
      → OfFile Reading name files result
  of-content files content result e le h = subst (λ (o : Option (List ℕ)). OfContent Reading name o result) (sym e) (inr (le, h))

  of-long : (files : Contents) (content : List ℕ) → files name ≡ Some content → file_limit < length content → OfFile Reading name files (Err (of_file TooLong name))
  of-long files content e lt = subst (λ (o : Option (List ℕ)). OfContent Reading name o (Err (of_file TooLong name))) (sym e) (inl (lt, refl))

  of-absent : (files : Contents) → files name ≡ None → OfFile Reading name files (Err (of_file ReadFault name))
  of-absent files e = subst (λ (o : Option (List ℕ)). OfContent Reading name o (Err (of_file ReadFault name))) (sym e) refl

  pub loading-refuses : (old new : ShelfState) (fault : Fault) → LoadFails name old new fault → Refuses old new (OfFile Reading name) fault
  loading-refuses old new fault (for_memory e) = subst (λ (f : Fault). Refuses old new (OfFile Reading name) f) (sym e) tt
  loading-refuses old new fault (unread e (inl rose) _) = subst (λ (f : Fault). Refuses old new (OfFile Reading name) f) (sym e) (inl rose)
  loading-refuses old new fault (unread e (inr (files, told, absent)) _) =
      subst (λ (f : Fault). Refuses old new (OfFile Reading name) f) (sym e) (inr (files, told, of-absent files absent))
  loading-refuses old new fault (longer e h) =
      subst (λ (f : Fault). Refuses old new (OfFile Reading name) f) (sym e) (λ files told. let k = h files told in of-long files k.0 k.1 k.2)

  text-refuses : (old new : ShelfState) (bytes : List ℕ) (fault : Fault) → IsContent old name bytes → length bytes ≤ file_limit
      → (cause : Cause) → cause ≡ OfText → Reading bytes (Err fault) → HasCause cause ⊥ old new (λ files. OfFile Reading name files (Err fault))
  text-refuses old new bytes fault is le cause e h =
      subst (λ (c : Cause). HasCause c ⊥ old new (λ files. OfFile Reading name files (Err fault))) (sym e)
      (λ files told. of-content files bytes (Err fault) (is files told) le h)

  -- what is refused of a content that was read
  pub read-refuses : {names : List (List ℕ)} (old new : ShelfState) (bytes : List ℕ) (fault : Fault) → IsContent old name bytes → length bytes ≤ file_limit
      → TextFails names (λ f. Reading bytes (Err f)) fault → Refuses old new (OfFile Reading name) fault
  read-refuses old new bytes fault is le (inl e) = subst (λ (f : Fault). Refuses old new (OfFile Reading name) f) (sym e) tt
  read-refuses old new bytes fault is le (inr t) = text-refuses old new bytes fault is le (cause_of fault.reason) t.cause t.refusal

-- the same of a result, where it has a fault
pub result-refuses : {A : Type 0} (Reading : List ℕ → Result A Fault → Type 0) (name : List ℕ) (old new : ShelfState) (bytes : List ℕ) (result : Result A Fault)
    → IsContent old name bytes → length bytes ≤ file_limit → IfErr result (λ fault. TextFails (name ∷ []) (λ f. Reading bytes (Err f)) fault)
    → IfErr result (λ fault. Refuses old new (OfFile Reading name) fault)
result-refuses Reading name old new bytes (Ok _) is le h = tt
result-refuses Reading name old new bytes (Err fault) is le h = read-refuses Reading name old new bytes fault is le h

-- a fault is told by what is said of its cause
abbrev pub IsTold : {F : Type 0} → List ℕ → (F → Diagnostic) → F → Fault → Type 0
IsTold name diagnostic cause fault = (fault ≡ of_none NoMemory) ⊎ (((diagnostic cause).reason ≢ NoMemory) × (fault ≡ fault_in name (diagnostic cause)))

pub told-cause : {F : Type 0} (name : List ℕ) (diagnostic : F → Diagnostic) (cause : F) (fault : Fault) (said : Diagnostic) → said ≡ diagnostic cause
    → (fault ≡ of_none NoMemory) ⊎ ((said.reason ≢ NoMemory) × (fault ≡ fault_in name said)) → IsTold name diagnostic cause fault
told-cause name diagnostic cause fault said e h =
    subst (λ (d : Diagnostic). (fault ≡ of_none NoMemory) ⊎ ((d.reason ≢ NoMemory) × (fault ≡ fault_in name d))) e h

pub of-text : (name : List ℕ) (fault : Fault) → cause_of fault.reason ≡ OfText → fault.file ≡ Some name
    → (fault.reason ≢ MissingSignal → fault.signal ≡ None) → IsOfFile name fault
of-text name fault e file signal = record { reason = subst SpeaksOfFile (sym e) tt; file = file; signal = signal }

-- a fault that was told is what the reading refuses
pub told-fails : {A F : Type 0} (name : List ℕ) (diagnostic : F → Diagnostic) (IsValue : A → Type 0) (IsFault : F → Type 0) (cause : F) (fault : Fault) (said : Diagnostic)
    → IsFault cause → (((diagnostic cause).reason ≢ NoMemory) → cause_of (diagnostic cause).reason ≡ OfText) → said ≡ diagnostic cause
    → (fault ≡ of_none NoMemory) ⊎ ((said.reason ≢ NoMemory) × (fault ≡ fault_in name said))
    → IsReading (name ∷ []) (ToldBy name diagnostic IsValue IsFault) (Err fault)
told-fails name diagnostic IsValue IsFault cause fault said is text e h = record { gives = tt; refuses = by (told-cause name diagnostic cause fault said e h) }
  where
    by : IsTold name diagnostic cause fault → TextFails (name ∷ []) (λ f. ToldBy name diagnostic IsValue IsFault (Err f)) fault
    by (inl e) = inl e
    by (inr (other, e)) =
        let of : cause_of fault.reason ≡ OfText = ap (λ (f : Fault). cause_of f.reason) e ∙ text other in
        inr record { cause = of; file = inl (of-text name fault of (ap (λ (f : Fault). f.file) e) (λ _. ap (λ (f : Fault). f.signal) e)); refusal = (cause, is, other, e) }

-- one reading after the other
module _ {A B : Type 0} (First : Result A Fault → Type 0) (Next : A → Result B Fault → Type 0) (names : List (List ℕ)) where
  pub reading-first : (fault : Fault) → IsReading names First (Err fault) → IsReading names (AndThen First Next) (Err fault)
  reading-first fault h = record { gives = tt; refuses = by h.refuses }
    where
      by : TextFails names (λ f. First (Err f)) fault → TextFails names (λ f. AndThen First Next (Err f)) fault
      by (inl e) = inl e
      by (inr t) = inr record { cause = t.cause; file = t.file; refusal = inl (fault, t.refusal, refl) }

  next-fails : (a : A) (fault : Fault) → First (Ok a) → TextFails names (λ f. Next a (Err f)) fault → TextFails names (λ f. AndThen First Next (Err f)) fault
  next-fails a fault h (inl e) = inl e
  next-fails a fault h (inr t) = inr record { cause = t.cause; file = t.file; refusal = inr (a, h, t.refusal) }

  pub reading-then : (a : A) (result : Result B Fault) → IsReading names First (Ok a) → IsReading names (Next a) result → IsReading names (AndThen First Next) result
  reading-then a (Ok b) h k = record { gives = inr (a, h.gives, k.gives); refuses = tt }
  reading-then a (Err fault) h k = record { gives = tt; refuses = next-fails a fault h.gives k.refuses }

-- the value of a reading is made into another
pub reading-value : {A B : Type 0} (First : Result A Fault → Type 0) (value : A → B) (names : List (List ℕ)) (a : A) → IsReading names First (Ok a)
    → IsReading names (AndThen First (λ a result. result ≡ Ok (value a))) (Ok (value a))
reading-value First value names a h = record { gives = inr (a, h.gives, refl); refuses = tt }

-- what a stage that reads no file refuses
pub text-stage-refuses : {A : Type 0} (Stage : Contents → Result A Fault → Type 0) (names : List (List ℕ)) (old new : ShelfState) (fault : Fault)
    → TextFails names (λ f. (files : Contents) → Stage files (Err f)) fault → Refuses old new Stage fault
text-stage-refuses Stage names old new fault (inl e) = subst (λ (f : Fault). Refuses old new Stage f) (sym e) tt
text-stage-refuses Stage names old new fault (inr t) =
    subst (λ (c : Cause). HasCause c ⊥ old new (λ files. Stage files (Err fault))) (sym t.cause) (λ files told. t.refusal files)

-- whose the faults are

pub text-named : (names : List (List ℕ)) (Refusal : Fault → Type 0) (fault : Fault) → TextFails names Refusal fault → IsOfFilesOrMemory names fault
text-named names Refusal fault (inl e) = inl e
text-named names Refusal fault (inr t) = inr t.file

pub loading-named : (name : List ℕ) (old new : ShelfState) (fault : Fault) → LoadFails name old new fault → IsOfFilesOrMemory (name ∷ []) fault
loading-named name old new fault (for_memory e) = inl e
loading-named name old new fault (unread e _ _) = inr (inl (subst (IsOfFile name) (sym e) record { reason = tt; file = refl; signal = λ _. refl }))
loading-named name old new fault (longer e _) = inr (inl (subst (IsOfFile name) (sym e) record { reason = tt; file = refl; signal = λ _. refl }))

-- which of them are of reading

pub other-unread : (new : ShelfState) (fault : Fault) → (fault.reason ≢ ReadFault) → IsUnread new fault
other-unread new fault other is = absurd (other is)

pub none-unread : (new : ShelfState) (reason : Reason) (fault : Fault) → (reason ≢ ReadFault) → fault ≡ of_none reason → IsUnread new fault
none-unread new reason fault other e = subst (IsUnread new) (sym e) (other-unread new (of_none reason) other)

no-memory : NoMemory ≢ ReadFault
no-memory e = let wrong : OfMemory ≡ OfReading = ap cause_of e in cc

pub memory-unread : {A : Type 0} (new : ShelfState) (result : Result A Fault) → IfErr result (λ fault. fault ≡ of_none NoMemory) → IfErr result (λ fault. IsUnread new fault)
memory-unread new (Ok _) h = tt
memory-unread new (Err fault) h = none-unread new NoMemory fault no-memory h

pub text-unread : (names : List (List ℕ)) (Refusal : Fault → Type 0) (new : ShelfState) (fault : Fault) → TextFails names Refusal fault → IsUnread new fault
text-unread names Refusal new fault (inl e) = none-unread new NoMemory fault no-memory e
text-unread names Refusal new fault (inr t) = other-unread new fault (λ is. let wrong : OfText ≡ OfReading = sym t.cause ∙ ap cause_of is in cc)

pub texts-unread : {A : Type 0} (names : List (List ℕ)) (Refusal : Fault → Type 0) (new : ShelfState) (result : Result A Fault)
    → IfErr result (λ fault. TextFails names Refusal fault) → IfErr result (λ fault. IsUnread new fault)
texts-unread names Refusal new (Ok _) h = tt
texts-unread names Refusal new (Err fault) h = text-unread names Refusal new fault h

pub loading-unread : (name : List ℕ) (old new : ShelfState) (fault : Fault) → LoadFails name old new fault → IsUnread new fault
loading-unread name old new fault (for_memory e) = none-unread new NoMemory fault no-memory e
loading-unread name old new fault (unread e _ selects) = subst (IsUnread new) (sym e) (λ _. (refl, selects))
loading-unread name old new fault (longer e _) =
    subst (IsUnread new) (sym e) (other-unread new (of_file TooLong name) (λ is. let wrong : OfText ≡ OfReading = ap cause_of is in cc))

-- a fault of files, or of memory, is none of the words
files-no-words : (names : List (List ℕ)) (fault : Fault) → IsOfFiles names fault → cause_of fault.reason ≡ OfWords → ⊥
files-no-words [] fault h w = h
files-no-words (name ∷ names) fault (inl t) w = subst SpeaksOfFile w t.reason
files-no-words (name ∷ names) fault (inr h) w = files-no-words names fault h w

pub no-words : (names : List (List ℕ)) (fault : Fault) → IsOfFilesOrMemory names fault → cause_of fault.reason ≡ OfWords → ⊥
no-words names fault (inl e) w = let wrong : OfMemory ≡ OfWords = sym (ap (λ (f : Fault). cause_of f.reason) e) ∙ w in cc
no-words names fault (inr h) w = files-no-words names fault h w
