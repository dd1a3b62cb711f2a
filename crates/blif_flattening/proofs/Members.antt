-- Members of lists.
use Rattle.std.proofs.Common.{◌≡◌, ℕ, zero, suc, ◌<◌, ◌⊎◌, inl, inr, List, [], ◌∷◌, ◌++◌, length, map, get_or, refl, sym, ap, subst, ⊎_elim, arith}
use Rattle.std.specs.List.{flat_map}
use Rattle.blif_flattening.specs.Members.{Among}

pub Among-left : {X : Type 0} (x : X) (xs ys : List X) → Among x xs → Among x (xs ++ ys)
Among-left x (y ∷ xs) ys (inl here) = inl here
Among-left x (y ∷ xs) ys (inr there) = inr (Among-left x xs ys there)
Among-left x [] ys none = absurd none

pub Among-right : {X : Type 0} (x : X) (xs ys : List X) → Among x ys → Among x (xs ++ ys)
Among-right x [] ys there = there
Among-right x (y ∷ xs) ys there = inr (Among-right x xs ys there)

pub from_append : {X : Type 0} (x : X) (xs ys : List X) → Among x (xs ++ ys) → Among x xs ⊎ Among x ys
from_append x [] ys there = inr there
from_append x (y ∷ xs) ys (inl here) = inl (inl here)
from_append x (y ∷ xs) ys (inr there) = ⊎_elim (λ first. inl (inr first)) (λ second. inr second) (from_append x xs ys there)

pub Among-map : {X Y : Type 0} (f : X → Y) (x : X) (xs : List X) → Among x xs → Among (f x) (map f xs)
Among-map f x (y ∷ xs) (inl here) = inl (ap f here)
Among-map f x (y ∷ xs) (inr there) = inr (Among-map f x xs there)
Among-map f x [] none = absurd none

pub from_map : {X Y : Type 0} (f : X → Y) (y : Y) (xs : List X) → Among y (map f xs) → (x : X) × Among x xs × (f x ≡ y)
from_map f y (x ∷ xs) (inl here) = (x, inl refl, here)
from_map f y (x ∷ xs) (inr there) = let rest = from_map f y xs there in (rest.0, inr rest.1, rest.2)
from_map f y [] none = absurd none

pub Among-flat_map : {X Y : Type 0} (f : X → List Y) (x : X) (y : Y) (xs : List X) → Among x xs → Among y (f x) → Among y (flat_map f xs)
Among-flat_map f x y (z ∷ xs) (inl here) there = Among-left y (f z) (flat_map f xs) (subst (λ w. Among y (f w)) (sym here) there)
Among-flat_map f x y (z ∷ xs) (inr rest) there = Among-right y (f z) (flat_map f xs) (Among-flat_map f x y xs rest there)
Among-flat_map f x y [] none there = absurd none

pub from_flat_map : {X Y : Type 0} (f : X → List Y) (y : Y) (xs : List X) → Among y (flat_map f xs) → (x : X) × Among x xs × Among y (f x)
from_flat_map f y [] none = absurd none
from_flat_map f y (x ∷ xs) there =
    ⊎_elim (λ here. (x, inl refl, here)) (λ later. let rest = from_flat_map f y xs later in (rest.0, inr rest.1, rest.2))
    (from_append y (f x) (flat_map f xs) there)

pub Among-at : {X : Type 0} (xs : List X) (k : ℕ) (d : X) → k < length xs → Among (get_or xs k d) xs
Among-at [] k d lt = absurd (omega arith)
Among-at (x ∷ xs) zero d lt = inl refl
Among-at (x ∷ xs) (suc k) d lt = inr (Among-at xs k d (omega arith))

-- where a member stands
pub Among-place : {X : Type 0} (x d : X) (xs : List X) → Among x xs → (k : ℕ) × (k < length xs) × (get_or xs k d ≡ x)
Among-place x d [] none = absurd none
Among-place x d (y ∷ xs) (inl here) = (0, omega arith, here)
Among-place x d (y ∷ xs) (inr there) = let rest = Among-place x d xs there in (suc rest.0, omega (arith, rest.1), rest.2)
