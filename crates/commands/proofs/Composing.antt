-- Stages one after the other are one stage.
use Rattle.std.proofs.Common.{◌≡◌, refl, ◌∙◌, ℕ, ◌≤◌, List, [], ◌∷◌, ◌++◌, length, Ok, Err, arith, inl, inr}
use Rattle.std.specs.Prelude.{Result}
use Rattle.psl_base.specs.Places.{file_limit}
use Rattle.psl_base.specs.Shelf.{Contents, ShelfState, OnlyReads, IsContent}
use Rattle.commands.proofs.Staging.{then-gives, first-refuses, next-refuses, of-content, loading-refuses, loading-named, loading-unread, read-refuses, text-stage-refuses, text-named, text-unread, no-words}
use Rattle.commands.specs.Stages.{Then, OfFile, IsOfFiles, IsOfFilesOrMemory, IsCounted, IsReading, IsStage, LoadFails, TextFails}
use Rattle.commands.specs.declared.outcome.Fault.{Fault}

pub reads-then : (old mid new : ShelfState) → OnlyReads old mid → OnlyReads mid new → OnlyReads old new
reads-then old mid new first next = record {
  told = next.told ∙ first.told;
  created = next.created ∙ first.created;
  write_faults = next.write_faults ∙ first.write_faults;
  read_faults = omega arith;
}

-- the files of both

of-more : (names more : List (List ℕ)) (fault : Fault) → IsOfFiles names fault → IsOfFiles (names ++ more) fault
of-more [] more fault h = absurd h
of-more (name ∷ names) more fault (inl t) = inl t
of-more (name ∷ names) more fault (inr h) = inr (of-more names more fault h)

of-later : (names more : List (List ℕ)) (fault : Fault) → IsOfFiles more fault → IsOfFiles (names ++ more) fault
of-later [] more fault h = h
of-later (name ∷ names) more fault h = inr (of-later names more fault h)

pub or-more : (names more : List (List ℕ)) (fault : Fault) → IsOfFilesOrMemory names fault → IsOfFilesOrMemory (names ++ more) fault
or-more names more fault (inl e) = inl e
or-more names more fault (inr h) = inr (of-more names more fault h)

or-later : (names more : List (List ℕ)) (fault : Fault) → IsOfFilesOrMemory more fault → IsOfFilesOrMemory (names ++ more) fault
or-later names more fault (inl e) = inl e
or-later names more fault (inr h) = inr (of-later names more fault h)

counted-later : (old mid new : ShelfState) (fault : Fault) → mid.read_faults ≡ old.read_faults → IsCounted mid new fault → IsCounted old new fault
counted-later old mid new fault quiet (inl still) = inl (still ∙ quiet)
counted-later old mid new fault quiet (inr told) = inr told

pub fails-of-more : (names more : List (List ℕ)) (Refusal : Fault → Type 0) (fault : Fault) → TextFails names Refusal fault → TextFails (names ++ more) Refusal fault
fails-of-more names more Refusal fault (inl e) = inl e
fails-of-more names more Refusal fault (inr t) = inr record { cause = t.cause; file = of-more names more fault t.file; refusal = t.refusal }

-- a stage behind a stage

module _ {A B : Type 0} (names more : List (List ℕ)) (First : Contents → Result A Fault → Type 0) (Next : A → Contents → Result B Fault → Type 0) where
  pub stage-first : (old new : ShelfState) (fault : Fault) → IsStage names First old new (Err fault) → IsStage (names ++ more) (Then First Next) old new (Err fault)
  stage-first old new fault s = record {
    gives = tt;
    refuses = first-refuses First Next old new fault s.refuses;
    named = or-more names more fault s.named;
    unread = s.unread;
    quiet = tt;
    counted = s.counted;
    kept = s.kept;
  }

  pub stage-then : (old mid new : ShelfState) (a : A) (result : Result B Fault) → IsStage names First old mid (Ok a) → IsStage more (Next a) mid new result
      → IsStage (names ++ more) (Then First Next) old new result
  stage-then old mid new a (Ok b) s t = record {
    gives = then-gives First Next old mid a b s.gives s.kept t.gives;
    refuses = tt;
    named = tt;
    unread = tt;
    quiet = t.quiet ∙ s.quiet;
    counted = tt;
    kept = reads-then old mid new s.kept t.kept;
  }
  stage-then old mid new a (Err fault) s t = record {
    gives = tt;
    refuses = next-refuses First Next old mid new a fault s.gives s.kept (no-words more fault t.named) t.refuses;
    named = or-later names more fault t.named;
    unread = t.unread;
    quiet = tt;
    counted = counted-later old mid new fault s.quiet t.counted;
    kept = reads-then old mid new s.kept t.kept;
  }

-- a stage over the files of some names is one over those of names among which they are
module _ (names more : List (List ℕ)) (among : (fault : Fault) → IsOfFiles names fault → IsOfFiles more fault) where
  among-or-memory : (fault : Fault) → IsOfFilesOrMemory names fault → IsOfFilesOrMemory more fault
  among-or-memory fault (inl e) = inl e
  among-or-memory fault (inr h) = inr (among fault h)

  pub stage-among : {A : Type 0} (Stage : Contents → Result A Fault → Type 0) (old new : ShelfState) (result : Result A Fault) → IsStage names Stage old new result
      → IsStage more Stage old new result
  stage-among Stage old new (Ok a) s = record { gives = s.gives; refuses = tt; named = tt; unread = tt; quiet = s.quiet; counted = tt; kept = s.kept }
  stage-among Stage old new (Err fault) s = record {
    gives = tt;
    refuses = s.refuses;
    named = among-or-memory fault s.named;
    unread = s.unread;
    quiet = tt;
    counted = s.counted;
    kept = s.kept;
  }

  -- the same of a reading
  pub reading-among : {A : Type 0} (Reading : Result A Fault → Type 0) (result : Result A Fault) → IsReading names Reading result → IsReading more Reading result
  reading-among Reading (Ok a) r = record { gives = r.gives; refuses = tt }
  reading-among Reading (Err fault) r = record { gives = tt; refuses = by r.refuses }
    where
      by : TextFails names (λ f. Reading (Err f)) fault → TextFails more (λ f. Reading (Err f)) fault
      by (inl e) = inl e
      by (inr t) = inr record { cause = t.cause; file = among fault t.file; refusal = t.refusal }

-- the value of a stage is made into another
pub stage-value : {A B : Type 0} (names : List (List ℕ)) (First : Contents → Result A Fault → Type 0) (value : A → B) (old new : ShelfState) (a : A)
    → IsStage names First old new (Ok a) → IsStage names (Then First (λ a files result. result ≡ Ok (value a))) old new (Ok (value a))
stage-value names First value old new a s = record {
  gives = then-gives First (λ a files result. result ≡ Ok (value a)) old new a (value a) s.gives s.kept (λ files told. refl);
  refuses = tt;
  named = tt;
  unread = tt;
  quiet = s.quiet;
  counted = tt;
  kept = s.kept;
}

-- a file, and then a second one, whose values are put together

module _ {A B C : Type 0} (one two : List ℕ) (First : Contents → Result A Fault → Type 0) (Second : Contents → Result B Fault → Type 0) (both : A → B → C) where
  abbrev After : A → Contents → Result C Fault → Type 0
  After a = Then Second (λ b files result. result ≡ Ok (both a b))

  pub both-first : (old new : ShelfState) (fault : Fault) → IsStage (one ∷ []) First old new (Err fault) → IsStage (one ∷ two ∷ []) (Then First After) old new (Err fault)
  both-first old new fault s = stage-first (one ∷ []) (two ∷ []) First After old new fault s

  pub both-second : (old mid new : ShelfState) (a : A) (fault : Fault) → IsStage (one ∷ []) First old mid (Ok a) → IsStage (two ∷ []) Second mid new (Err fault)
      → IsStage (one ∷ two ∷ []) (Then First After) old new (Err fault)
  both-second old mid new a fault s t =
      stage-then (one ∷ []) (two ∷ []) First After old mid new a (Err fault) s
      (stage-first (two ∷ []) [] Second (λ b files result. result ≡ Ok (both a b)) mid new fault t)

  pub both-loaded : (old mid new : ShelfState) (a : A) (b : B) → IsStage (one ∷ []) First old mid (Ok a) → IsStage (two ∷ []) Second mid new (Ok b)
      → IsStage (one ∷ two ∷ []) (Then First After) old new (Ok (both a b))
  both-loaded old mid new a b s t =
      stage-then (one ∷ []) (two ∷ []) First After old mid new a (Ok (both a b)) s (stage-value (two ∷ []) Second (both a) mid new b t)

-- a reading of fewer files is one of more
pub reading-of-more : {B : Type 0} (names more : List (List ℕ)) (Reading : Result B Fault → Type 0) (result : Result B Fault)
    → IsReading names Reading result → IsReading (names ++ more) Reading result
reading-of-more names more Reading (Ok b) r = record { gives = r.gives; refuses = tt }
reading-of-more names more Reading (Err fault) r = record { gives = tt; refuses = fails-of-more names more (λ f. Reading (Err f)) fault r.refuses }

-- a reading behind a stage, of its files

module _ {A B : Type 0} (names : List (List ℕ)) (First : Contents → Result A Fault → Type 0) (Reading : A → Result B Fault → Type 0) where
  for-all : (a : A) (fault : Fault) → TextFails names (λ f. Reading a (Err f)) fault → TextFails names (λ f. (files : Contents) → Reading a (Err f)) fault
  for-all a fault (inl e) = inl e
  for-all a fault (inr t) = inr record { cause = t.cause; file = t.file; refusal = λ files. t.refusal }

  pub stage-reading : (old new : ShelfState) (a : A) (result : Result B Fault) → IsStage names First old new (Ok a) → IsReading names (Reading a) result
      → IsStage names (Then First (λ a files. Reading a)) old new result
  stage-reading old new a (Ok b) s r = record {
    gives = then-gives First (λ a files. Reading a) old new a b s.gives s.kept (λ files told. r.gives);
    refuses = tt;
    named = tt;
    unread = tt;
    quiet = s.quiet;
    counted = tt;
    kept = s.kept;
  }
  stage-reading old new a (Err fault) s r =
      let named : IsOfFilesOrMemory names fault = text-named names (λ f. Reading a (Err f)) fault r.refuses in
      record {
        gives = tt;
        refuses = next-refuses First (λ a files. Reading a) old new new a fault s.gives s.kept (no-words names fault named)
            (text-stage-refuses (λ files. Reading a) names new new fault (for-all a fault r.refuses));
        named = named;
        unread = text-unread names (λ f. Reading a (Err f)) new fault r.refuses;
        quiet = tt;
        counted = inl s.quiet;
        kept = s.kept;
      }

-- a file that is loaded and read

module _ {A : Type 0} (Reading : List ℕ → Result A Fault → Type 0) (name : List ℕ) (old new : ShelfState) where
  pub stage-unloaded : (fault : Fault) → LoadFails name old new fault → IsCounted old new fault → OnlyReads old new
      → IsStage (name ∷ []) (OfFile Reading name) old new (Err fault)
  stage-unloaded fault fails counted kept = record {
    gives = tt;
    refuses = loading-refuses Reading name old new fault fails;
    named = loading-named name old new fault fails;
    unread = loading-unread name old new fault fails;
    quiet = tt;
    counted = counted;
    kept = kept;
  }

  -- its faults may be of other files that were read
  pub stage-loaded-of : (names : List (List ℕ)) (bytes : List ℕ) (result : Result A Fault) → IsContent old name bytes → length bytes ≤ file_limit
      → new.read_faults ≡ old.read_faults → OnlyReads old new
      → IsReading names (Reading bytes) result → IsStage names (OfFile Reading name) old new result
  stage-loaded-of names bytes (Ok a) is le quiet kept r = record {
    gives = λ files told. of-content Reading name files bytes (Ok a) (is files told) le r.gives;
    refuses = tt;
    named = tt;
    unread = tt;
    quiet = quiet;
    counted = tt;
    kept = kept;
  }
  stage-loaded-of names bytes (Err fault) is le quiet kept r = record {
    gives = tt;
    refuses = read-refuses Reading name {names = names} old new bytes fault is le r.refuses;
    named = text-named names (λ f. Reading bytes (Err f)) fault r.refuses;
    unread = text-unread names (λ f. Reading bytes (Err f)) new fault r.refuses;
    quiet = tt;
    counted = inl quiet;
    kept = kept;
  }

  pub stage-loaded : (bytes : List ℕ) (result : Result A Fault) → IsContent old name bytes → length bytes ≤ file_limit → new.read_faults ≡ old.read_faults → OnlyReads old new
      → IsReading (name ∷ []) (Reading bytes) result → IsStage (name ∷ []) (OfFile Reading name) old new result
  stage-loaded bytes result is le quiet kept r = stage-loaded-of (name ∷ []) bytes result is le quiet kept r
