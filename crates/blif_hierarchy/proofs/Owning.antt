-- The signals that instances have of their own, one instance after another.
use Rattle.std.proofs.Common.{◌≡◌, ℕ, zero, suc, ◌+◌, ◌-◌, ◌<◌, ◌⊎◌, inl, inr, cond, List, [], ◌∷◌, ◌++◌, length, slice_get, sum_by, is_none, option_and_then, Option, Some, None, refl, sym, ap, subst, ⊎_elim, arith}
use Rattle.std.proofs.lemmas.List.{length-append}
use Rattle.std.proofs.lemmas.List.Sums.{sum_by-cons}
use Rattle.blif_flattening.specs.declared.model.Connection.{Connection}
use Rattle.blif_flattening.specs.declared.model.Placement.{Placement}
use Rattle.blif_flattening.specs.declared.model.Model.{Model}
use Rattle.blif_flattening.specs.declared.model.Signal.{Signal}
use Rattle.blif_flattening.specs.declared.model.TheConstants.{DEEPEST}
use Rattle.blif_flattening.specs.Hierarchy.{Path, placement_at, placed_model, model_at, actual_in, actual_of, owner_by, owner, IsInstance}
use Rattle.blif_flattening.specs.Instances.{names_of, own_signal}
use Rattle.blif_flattening.specs.Members.{Among}
use Rattle.blif_flattening.proofs.Members.{Among-left, Among-right}
use Rattle.blif_hierarchy.specs.Sums.{placements_of, own_count, signals_below, signal_count}

-- a name's own signal, where it is connected with nothing, before others
abbrev pub onto_own : Option ℕ → Path → ℕ → List Signal → List Signal
onto_own None path name signals = own_signal path name ∷ signals
onto_own (Some actual) path name signals = signals

-- the signals of their own of so many names of an instance
abbrev pub own_signals : List Connection → Path → ℕ → List Signal
own_signals connections path zero = []
own_signals connections path (suc name) = onto_own (actual_in connections name) path name (own_signals connections path name)

-- those of placements in an instance, from one number on, and of the instances below them
abbrev pub listed_by : {Line : Type 0} → List (Model Line) → (ℕ → Path → List Signal) → Path → ℕ → List Placement → List Signal
listed_by models below path k [] = []
listed_by models below path k (placement ∷ placements) =
    (own_signals placement.connections (k ∷ path) (names_of models placement.model) ++ below placement.model (k ∷ path))
    ++ listed_by models below path (suc k) placements

-- and those of all instances below one of a model, so many levels deep
abbrev pub listed_below : {Line : Type 0} → List (Model Line) → ℕ → ℕ → Path → List Signal
listed_below models zero model path = []
listed_below models (suc levels) model path = listed_by models (listed_below models levels) path 0 (placements_of models model)

-- all of them
unfoldable pub listed : {Line : Type 0} → List (Model Line) → List Signal
listed models = own_signals [] [] (names_of models 0) ++ listed_below models DEEPEST 0 []

-- there are as many as are counted
own-length : (connections : List Connection) (path : Path) (count : ℕ) → length (own_signals connections path count) ≡ own_count connections count
own-length connections path zero = refl
own-length connections path (suc name) = by_actual (actual_in connections name) (own-length connections path name)
  where
    by_actual : (actual : Option ℕ) → length (own_signals connections path name) ≡ own_count connections name
        → length (onto_own actual path name (own_signals connections path name)) ≡ own_count connections name + cond (is_none actual) 1 0
    by_actual None same = omega (arith, same)
    by_actual (Some actual) same = omega (arith, same)

all-own : (path : Path) (count : ℕ) → own_count [] count ≡ count
all-own path zero = refl
all-own path (suc name) = omega (arith, all-own path name)

by-length : {Line : Type 0} (models : List (Model Line)) (below : ℕ → Path → List Signal) (many : ℕ → ℕ)
    → ((model : ℕ) (path : Path) → length (below model path) ≡ many model) → (path : Path) (k : ℕ) (placements : List Placement)
    → length (listed_by models below path k placements)
    ≡ sum_by (λ placement. own_count placement.connections (names_of models placement.model) + many placement.model) placements
by-length models below many same path k [] = refl
by-length models below many same path k (placement ∷ placements) =
    let own = own_signals placement.connections (k ∷ path) (names_of models placement.model) in
    let inner = below placement.model (k ∷ path) in
    omega (
      arith,
      length-append (own ++ inner) (listed_by models below path (suc k) placements),
      length-append own inner,
      own-length placement.connections (k ∷ path) (names_of models placement.model),
      same placement.model (k ∷ path),
      by-length models below many same path (suc k) placements,
      sum_by-cons (λ (p : Placement). own_count p.connections (names_of models p.model) + many p.model) placement placements,
    )

below-length : {Line : Type 0} (models : List (Model Line)) (levels model : ℕ) (path : Path)
    → length (listed_below models levels model path) ≡ signals_below models levels model
below-length models zero model path = refl
below-length models (suc levels) model path =
    by-length models (listed_below models levels) (signals_below models levels) (below-length models levels) path 0 (placements_of models model)

pub listed-length : {Line : Type 0} (models : List (Model Line)) → length (listed models) ≡ signal_count models
unfolding listed signal_count
listed-length models =
    let own = own_signals [] [] (names_of models 0) in
    omega (
      arith,
      length-append own (listed_below models DEEPEST 0 []),
      own-length [] [] (names_of models 0),
      all-own [] (names_of models 0),
      below-length models DEEPEST 0 [],
    )

-- a name that is connected with nothing is there
own-there : (connections : List Connection) (path : Path) (count name : ℕ) → name < count → actual_in connections name ≡ None
    → Among (own_signal path name) (own_signals connections path count)
own-there connections path zero name lt none = absurd (omega arith)
own-there connections path (suc last) name lt none =
    ⊎_elim
    (λ before. later (actual_in connections last) (own-there connections path last name before none))
    (λ same. subst (λ n. Among (own_signal path n) (onto_own (actual_in connections last) path last (own_signals connections path last))) (sym same)
    (subst (λ actual. Among (own_signal path last) (onto_own actual path last (own_signals connections path last)))
    (sym (subst (λ n. actual_in connections n ≡ None) same none)) (inl refl)))
    (last_or name last lt)
  where
    later : (actual : Option ℕ) → Among (own_signal path name) (own_signals connections path last)
        → Among (own_signal path name) (onto_own actual path last (own_signals connections path last))
    later None there = inr there
    later (Some actual) there = there

    last_or : (n m : ℕ) → n < suc m → (n < m) ⊎ (n ≡ m)
    last_or n m less = grind arith

-- what stands there of a placement
placed-there : {Line : Type 0} (models : List (Model Line)) (below : ℕ → Path → List Signal) (path : Path) (k j : ℕ) (placement : Placement) (signal : Signal)
    (placements : List Placement) → slice_get placements j ≡ Some placement
    → Among signal (own_signals placement.connections ((k + j) ∷ path) (names_of models placement.model) ++ below placement.model ((k + j) ∷ path))
    → Among signal (listed_by models below path k placements)
placed-there models below path k j placement signal [] is there = cc
placed-there models below path k zero placement signal (first ∷ placements) is there =
    let same : first ≡ placement = cc in
    let at : k + 0 ≡ k = omega arith in
    Among-left signal _ (listed_by models below path (suc k) placements)
    (subst (λ n. Among signal (own_signals first.connections (n ∷ path) (names_of models first.model) ++ below first.model (n ∷ path))) at
    (subst (λ (p : Placement). Among signal (own_signals p.connections ((k + 0) ∷ path) (names_of models p.model) ++ below p.model ((k + 0) ∷ path)))
    (sym same) there))
placed-there models below path k (suc j) placement signal (first ∷ placements) is there =
    let at : k + suc j ≡ suc k + j = omega arith in
    Among-right signal _ (listed_by models below path (suc k) placements)
    (placed-there models below path (suc k) j placement signal placements is
    (subst (λ n. Among signal (own_signals placement.connections (n ∷ path) (names_of models placement.model) ++ below placement.model (n ∷ path))) at there))

-- the top lists what an instance below it does
rises : {Line : Type 0} (models : List (Model Line)) (path : Path) (levels : ℕ) → IsInstance models path → length path + levels ≡ DEEPEST
    → (signal : Signal) → Among signal (listed_below models levels (model_at models path) path) → Among signal (listed models)
unfolding listed
rises models [] levels instance deep signal there =
    let all : levels ≡ DEEPEST = omega arith in
    Among-right signal (own_signals [] [] (names_of models 0)) (listed_below models DEEPEST 0 [])
    (subst (λ n. Among signal (listed_below models n 0 [])) all there)
rises models (k ∷ path) levels instance deep signal there =
    let placement : Placement = instance.1.0 in
    let model : placed_model (placement_at models path k) ≡ placement.model = ap placed_model instance.1.1 in
    let here = subst (λ m. Among signal (listed_below models levels m (k ∷ path))) model there in
    let at : 0 + k ≡ k = omega arith in
    rises models path (suc levels) instance.0 (omega arith) signal
    (placed-there models (listed_below models levels) path 0 k placement signal (placements_of models (model_at models path)) instance.1.1
    (subst (λ n. Among signal (own_signals placement.connections (n ∷ path) (names_of models placement.model) ++ listed_below models levels placement.model (n ∷ path)))
    (sym at)
    (Among-right signal (own_signals placement.connections (k ∷ path) (names_of models placement.model)) (listed_below models levels placement.model (k ∷ path)) here)))

-- the signal of each name of an instance is listed
own-listed : {Line : Type 0} (models : List (Model Line)) (path : Path) (k name : ℕ) → IsInstance models (k ∷ path) → length (k ∷ path) < DEEPEST
    → name < names_of models (model_at models (k ∷ path)) → actual_of models path k name ≡ None → Among (own_signal (k ∷ path) name) (listed models)
own-listed models path k name instance shallow lt none =
    let placement : Placement = instance.1.0 in
    let model : placed_model (placement_at models path k) ≡ placement.model = ap placed_model instance.1.1 in
    let below : name < names_of models placement.model = subst (λ m. name < names_of models m) model lt in
    let free : actual_in placement.connections name ≡ None =
    subst (λ (p : Option Placement). option_and_then (λ (q : Placement). actual_in q.connections name) p ≡ None) instance.1.1 none in
    let levels : ℕ = DEEPEST - suc (length path) in
    let at : 0 + k ≡ k = omega arith in
    rises models path (suc levels) instance.0 (omega arith) (own_signal (k ∷ path) name)
    (placed-there models (listed_below models levels) path 0 k placement (own_signal (k ∷ path) name) (placements_of models (model_at models path)) instance.1.1
    (subst (λ n. Among (own_signal (k ∷ path) name) (own_signals placement.connections (n ∷ path) (names_of models placement.model) ++ listed_below models levels placement.model (n ∷ path)))
    (sym at)
    (Among-left (own_signal (k ∷ path) name) (own_signals placement.connections (k ∷ path) (names_of models placement.model)) (listed_below models levels placement.model (k ∷ path))
    (own-there placement.connections (k ∷ path) (names_of models placement.model) name below free))))

module _ (Line : Type 0) (models : List (Model Line))
    (shallow : (path : Path) → IsInstance models path → length path < DEEPEST)
    (below : (path : Path) (k formal actual : ℕ) → actual_of models path k formal ≡ Some actual → actual < names_of models (model_at models path)) where
  by_actual : (path : Path) (k name : ℕ) → IsInstance models (k ∷ path) → name < names_of models (model_at models (k ∷ path))
      → ((above : ℕ) → above < names_of models (model_at models path) → Among (owner models path above) (listed models))
      → (actual : Option ℕ) → actual_of models path k name ≡ actual → Among (owner_by (owner models path) (k ∷ path) name actual) (listed models)
  by_actual path k name instance lt above None none = own-listed models path k name instance (shallow (k ∷ path) instance) lt none
  by_actual path k name instance lt above (Some actual) some = above actual (below path k name actual some)

  pub owner-listed : (path : Path) (name : ℕ) → IsInstance models path → name < names_of models (model_at models path) → Among (owner models path name) (listed models)
  unfolding listed
  owner-listed [] name instance lt =
      Among-left (own_signal [] name) (own_signals [] [] (names_of models 0)) (listed_below models DEEPEST 0 [])
      (own-there [] [] (names_of models 0) name lt refl)
  owner-listed (k ∷ path) name instance lt =
      by_actual path k name instance lt (λ above less. owner-listed path above instance.0 less) (actual_of models path k name) refl
