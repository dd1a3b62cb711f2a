-- No signal is listed twice.
use Rattle.std.proofs.Common.{◌≡◌, ℕ, zero, suc, ◌<◌, ◌≤◌, inl, inr, List, [], ◌∷◌, ◌++◌, length, Option, Some, None, refl, sym, ap, ◌∙◌, subst, ⊎_elim, arith}
use Rattle.std.proofs.lemmas.List.{append_assoc, length-append}
use Rattle.blif_flattening.specs.declared.model.Connection.{Connection}
use Rattle.blif_flattening.specs.declared.model.Placement.{Placement}
use Rattle.blif_flattening.specs.declared.model.Model.{Model}
use Rattle.blif_flattening.specs.declared.model.Signal.{Signal}
use Rattle.blif_flattening.specs.declared.model.TheConstants.{DEEPEST}
use Rattle.blif_flattening.specs.Hierarchy.{Path, actual_in}
use Rattle.blif_flattening.specs.Instances.{names_of, own_signal, Under}
use Rattle.blif_flattening.specs.Members.{Among, Apart}
use Rattle.blif_flattening.proofs.Members.{from_append}
use Rattle.blif_flattening.proofs.Visiting.{under_one}
use Rattle.blif_hierarchy.specs.Sums.{placements_of}
use Rattle.blif_hierarchy.proofs.Owning.{onto_own, own_signals, listed_by, listed_below, listed}

pub Apart-append : {X : Type 0} (xs ys : List X) → Apart xs → Apart ys → ((x : X) → Among x xs → Among x ys → ⊥) → Apart (xs ++ ys)
Apart-append [] ys first second apart = second
Apart-append (x ∷ xs) ys first second apart = (
  λ there. ⊎_elim (λ here. first.0 here) (λ later. apart x (inl refl) later) (from_append x xs ys there),
  Apart-append xs ys first.1 second (λ y one other. apart y (inr one) other),
)

-- the own signals of an instance are of its path, and of names below the count
pub from_own : (connections : List Connection) (path : Path) (count : ℕ) (signal : Signal) → Among signal (own_signals connections path count)
    → (signal.path ≡ path) × (signal.name < count)
from_own connections path zero signal none = absurd none
from_own connections path (suc name) signal there =
    by_actual (actual_in connections name) there (λ among. let rest = from_own connections path name signal among in (rest.0, omega (arith, rest.1)))
  where
    by_actual : (actual : Option ℕ) → Among signal (onto_own actual path name (own_signals connections path name))
        → (Among signal (own_signals connections path name) → (signal.path ≡ path) × (signal.name < suc name)) → (signal.path ≡ path) × (signal.name < suc name)
    by_actual None among later =
        ⊎_elim
        (λ here. (ap (λ (s : Signal). s.path) (sym here), let is : name ≡ signal.name = ap (λ (s : Signal). s.name) here in omega (arith, is)))
        (λ rest. later rest) among
    by_actual (Some above) among later = later among

own-apart : (connections : List Connection) (path : Path) (count : ℕ) → Apart (own_signals connections path count)
own-apart connections path zero = tt
own-apart connections path (suc name) = by_actual (actual_in connections name) (own-apart connections path name)
  where
    by_actual : (actual : Option ℕ) → Apart (own_signals connections path name) → Apart (onto_own actual path name (own_signals connections path name))
    by_actual None rest = (λ there. let less = (from_own connections path name (own_signal path name) there).1 in absurd (omega (arith, less)), rest)
    by_actual (Some above) rest = rest

-- what is listed of placements from a number on lies under one of them
record UnderFrom (path : Path) (k : ℕ) (signal : Signal) : Type 0 where
  place : ℕ
  from : k ≤ place
  under : Under (place ∷ path) signal.path

under-mine : (connections : List Connection) (path : Path) (count k : ℕ) (signal : Signal) → Among signal (own_signals connections (k ∷ path) count)
    → Under (k ∷ path) signal.path
under-mine connections path count k signal there = record { rest = []; is = (from_own connections (k ∷ path) count signal there).0 }

by-under : {Line : Type 0} (models : List (Model Line)) (below : ℕ → Path → List Signal) (path : Path)
    → ((model k : ℕ) (signal : Signal) → Among signal (below model (k ∷ path)) → Under (k ∷ path) signal.path)
    → (k : ℕ) (placements : List Placement) (signal : Signal) → Among signal (listed_by models below path k placements) → UnderFrom path k signal
by-under models below path each k [] signal none = absurd none
by-under models below path each k (placement ∷ placements) signal there =
    let own = own_signals placement.connections (k ∷ path) (names_of models placement.model) in
    ⊎_elim
    (λ first. ⊎_elim
    (λ mine. record { place = k; from = omega arith; under = under-mine placement.connections path (names_of models placement.model) k signal mine })
    (λ inner. record { place = k; from = omega arith; under = each placement.model k signal inner })
    (from_append signal own (below placement.model (k ∷ path)) first))
    (λ later. let rest = by-under models below path each (suc k) placements signal later in
    record { place = rest.place; from = omega (arith, rest.from); under = rest.under })
    (from_append signal (own ++ below placement.model (k ∷ path)) (listed_by models below path (suc k) placements) there)

below-under : {Line : Type 0} (models : List (Model Line)) (levels model : ℕ) (path : Path) (signal : Signal)
    → Among signal (listed_below models levels model path) → (k : ℕ) × Under (k ∷ path) signal.path
below-under models zero model path signal none = absurd none
below-under models (suc levels) model path signal there =
    let found = by-under models (listed_below models levels) path
    (λ inner k other among. let deeper = below-under models levels inner (k ∷ path) other among in
    record { rest = deeper.1.rest ++ deeper.0 ∷ []; is = deeper.1.is ∙ sym (append_assoc deeper.1.rest (deeper.0 ∷ []) (k ∷ path)) })
    0 (placements_of models model) signal there in
    (found.place, found.under)

under-below : {Line : Type 0} (models : List (Model Line)) (levels model k : ℕ) (path : Path) (signal : Signal)
    → Among signal (listed_below models levels model (k ∷ path)) → Under (k ∷ path) signal.path
under-below models levels model k path signal there =
    let found = below-under models levels model (k ∷ path) signal there in
    record { rest = found.1.rest ++ found.0 ∷ []; is = found.1.is ∙ sym (append_assoc found.1.rest (found.0 ∷ []) (k ∷ path)) }

-- no path lies under itself
not-under : (k : ℕ) (path : Path) → Under (k ∷ path) path → ⊥
not-under k path under =
    let sizes : length path ≡ length (under.rest ++ k ∷ path) = ap (λ (p : Path). length p) under.is in
    omega (arith, sizes, length-append under.rest (k ∷ path))

own-below : {Line : Type 0} (models : List (Model Line)) (levels model count : ℕ) (connections : List Connection) (path : Path) (signal : Signal)
    → Among signal (own_signals connections path count) → Among signal (listed_below models levels model path) → ⊥
own-below models levels model count connections path signal mine inner =
    let found = below-under models levels model path signal inner in
    not-under found.0 path (subst (λ p. Under (found.0 ∷ path) p) (from_own connections path count signal mine).0 found.1)

by-apart : {Line : Type 0} (models : List (Model Line)) (levels : ℕ) → ((model : ℕ) (path : Path) → Apart (listed_below models levels model path))
    → (path : Path) (k : ℕ) (placements : List Placement) → Apart (listed_by models (listed_below models levels) path k placements)
by-apart models levels each path k [] = tt
by-apart models levels each path k (placement ∷ placements) =
    let own = own_signals placement.connections (k ∷ path) (names_of models placement.model) in
    let inner = listed_below models levels placement.model (k ∷ path) in
    Apart-append (own ++ inner) (listed_by models (listed_below models levels) path (suc k) placements)
    (Apart-append own inner (own-apart placement.connections (k ∷ path) (names_of models placement.model)) (each placement.model (k ∷ path))
    (λ signal mine below. own-below models levels placement.model (names_of models placement.model) placement.connections (k ∷ path) signal mine below))
    (by-apart models levels each path (suc k) placements)
    (λ signal first later.
    let rest = by-under models (listed_below models levels) path (λ model j other among. under-below models levels model j path other among) (suc k) placements signal later in
    let here : Under (k ∷ path) signal.path =
    ⊎_elim (λ mine. under-mine placement.connections path (names_of models placement.model) k signal mine)
    (λ below. under-below models levels placement.model k path signal below)
    (from_append signal own inner first) in
    let same : k ≡ rest.place = under_one here.rest rest.under.rest path k rest.place (sym here.is ∙ rest.under.is) in
    absurd (omega (arith, same, rest.from)))

below-apart : {Line : Type 0} (models : List (Model Line)) (levels model : ℕ) (path : Path) → Apart (listed_below models levels model path)
below-apart models zero model path = tt
below-apart models (suc levels) model path = by-apart models levels (below-apart models levels) path 0 (placements_of models model)

pub listed-apart : {Line : Type 0} (models : List (Model Line)) → Apart (listed models)
unfolding listed
listed-apart models =
    Apart-append (own_signals [] [] (names_of models 0)) (listed_below models DEEPEST 0 []) (own-apart [] [] (names_of models 0)) (below-apart models DEEPEST 0 [])
    (λ signal mine inner. own-below models DEEPEST 0 (names_of models 0) [] [] signal mine inner)
