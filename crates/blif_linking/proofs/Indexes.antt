-- What stands at a place of a list.
use Rattle.std.proofs.Common.{◌≡◌, ℕ, zero, suc, ◌+◌, ◌≤◌, List, [], ◌∷◌, ◌++◌, length, map, take, drop, slice_index_or, Some, refl, sym, ap, ◌∙◌, add-one, arith}
use Rattle.std.proofs.lemmas.List.{map-append}
use Rattle.std.specs.Prelude.{slice_get}

pub at-get : {X : Type 0} (xs : List X) (n : ℕ) (x d : X) → slice_get xs n ≡ Some x → slice_index_or xs n d ≡ x
at-get [] n x d is = cc
at-get (y ∷ xs) zero x d is = cc
at-get (y ∷ xs) (suc n) x d is = at-get xs n x d is

pub drop-get : {X : Type 0} (xs : List X) (n : ℕ) (x : X) → slice_get xs n ≡ Some x → drop n xs ≡ x ∷ drop (suc n) xs
drop-get [] n x is = cc
drop-get (y ∷ xs) zero x is = let same : y ≡ x = cc in ap (λ first. first ∷ xs) same
drop-get (y ∷ xs) (suc n) x is = drop-get xs n x is

pub take-get : {X : Type 0} (xs : List X) (n : ℕ) (x : X) → slice_get xs n ≡ Some x → take (suc n) xs ≡ take n xs ++ x ∷ []
take-get [] n x is = cc
take-get (y ∷ xs) zero x is = let same : y ≡ x = cc in ap (λ first. first ∷ []) same
take-get (y ∷ xs) (suc n) x is = ap (λ rest. y ∷ rest) (take-get xs n x is)

pub past-end : {X : Type 0} (xs : List X) (n : ℕ) (d : X) → length xs ≤ n → slice_index_or xs n d ≡ d
past-end [] n d past = refl
past-end (y ∷ xs) zero d past = absurd (omega (arith, past))
past-end (y ∷ xs) (suc n) d past = past-end xs n d (omega (arith, past))

-- a list that grows by what is made of each
pub pushed : {X Y : Type 0} (f : X → Y) (xs : List X) (n : ℕ) (x : X) (y : Y) (old new : List Y) → slice_get xs n ≡ Some x → y ≡ f x
    → old ≡ map f (take n xs) → new ≡ old ++ y ∷ [] → new ≡ map f (take (n + 1) xs)
pushed f xs n x y old new at made before grown =
    let next : take (n + 1) xs ≡ take n xs ++ x ∷ [] = rw add-one (take-get xs n x at) in
    grown
    ∙ ap (λ list. list ++ y ∷ []) before
    ∙ ap (λ z. map f (take n xs) ++ z ∷ []) made
    ∙ sym (map-append f (take n xs) (x ∷ []))
    ∙ ap (map f) (sym next)
