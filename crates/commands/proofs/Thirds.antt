-- A stage over a third file behind one over two, whose faults are of the first file or of the third.
use Rattle.std.proofs.Common.{ℕ, List, [], ◌∷◌, inl, inr}
use Rattle.std.specs.Prelude.{Result, Ok, Err}
use Rattle.psl_base.specs.Shelf.{Contents, ShelfState}
use Rattle.commands.proofs.Composing.{reading-among, stage-among, stage-first, stage-reading, stage-then}
use Rattle.commands.specs.Stages.{IsOfFiles, IsReading, IsStage, Then}
use Rattle.commands.specs.declared.outcome.Fault.{Fault}

module _ (one two three : List ℕ) where
  third : (fault : Fault) → IsOfFiles (three ∷ []) fault → IsOfFiles (one ∷ three ∷ []) fault
  third fault h = inr h

  -- the names of all of them, of which some stand twice
  each : (fault : Fault) → IsOfFiles (one ∷ two ∷ one ∷ three ∷ []) fault → IsOfFiles (one ∷ two ∷ three ∷ []) fault
  each fault (inl h) = inl h
  each fault (inr (inl h)) = inr (inl h)
  each fault (inr (inr (inl h))) = inl h
  each fault (inr (inr (inr h))) = inr (inr h)

  module _ {A B C : Type 0} (Loaded : Contents → Result A Fault → Type 0) (Third : Contents → Result B Fault → Type 0) (Reading : A → B → Result C Fault → Type 0) where
    abbrev Next : A → Contents → Result C Fault → Type 0
    Next a = Then Third (λ b files. Reading a b)

    pub third-first : (old new : ShelfState) (fault : Fault) → IsStage (one ∷ two ∷ []) Loaded old new (Err fault)
        → IsStage (one ∷ two ∷ three ∷ []) (Then Loaded Next) old new (Err fault)
    third-first old new fault s = stage-first (one ∷ two ∷ []) (three ∷ []) Loaded Next old new fault s

    pub third-second : (old mid new : ShelfState) (a : A) (fault : Fault) → IsStage (one ∷ two ∷ []) Loaded old mid (Ok a) → IsStage (three ∷ []) Third mid new (Err fault)
        → IsStage (one ∷ two ∷ three ∷ []) (Then Loaded Next) old new (Err fault)
    third-second old mid new a fault s t =
        stage-then (one ∷ two ∷ []) (three ∷ []) Loaded Next old mid new a (Err fault) s
        (stage-first (three ∷ []) [] Third (λ b files. Reading a b) mid new fault t)

    pub third-reading : (old mid new : ShelfState) (a : A) (b : B) (result : Result C Fault) → IsStage (one ∷ two ∷ []) Loaded old mid (Ok a)
        → IsStage (three ∷ []) Third mid new (Ok b) → IsReading (one ∷ three ∷ []) (Reading a b) result
        → IsStage (one ∷ two ∷ three ∷ []) (Then Loaded Next) old new result
    third-reading old mid new a b result s t r =
        stage-among (one ∷ two ∷ one ∷ three ∷ []) (one ∷ two ∷ three ∷ []) each (Then Loaded Next) old new result
        (stage-then (one ∷ two ∷ []) (one ∷ three ∷ []) Loaded Next old mid new a result s
        (stage-reading (one ∷ three ∷ []) Third (Reading a) mid new b result
        (stage-among (three ∷ []) (one ∷ three ∷ []) third Third mid new (Ok b) t) r))

  pub of-third : {A : Type 0} (Reading : Result A Fault → Type 0) (result : Result A Fault) → IsReading (three ∷ []) Reading result → IsReading (one ∷ three ∷ []) Reading result
  of-third Reading result r = reading-among (three ∷ []) (one ∷ three ∷ []) third Reading result r
