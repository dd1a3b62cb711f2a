-- Members of lists that were filtered, mapped and turned around, and pairs of them.
use Rattle.std.proofs.Common.{◌≡◌, ◌≢◌, ◌⊎◌, ℕ, zero, suc, ◌-◌, ◌<◌, Bool, true, false, cond, eqb, List, [], ◌∷◌, length, map, reverse, get_or, inl, inr, refl, sym, ap, ◌∙◌, subst, arith}
use Rattle.std.specs.List.{All, AllPairs, Contains, filter}
use Rattle.std.specs.List.Sorted.{IsPermutation, IsNonDecreasing}
use Rattle.std.proofs.lemmas.Bool.Decides.{Decides-eqb}
use Rattle.std.proofs.lemmas.List.{length-reverse, get_or-reverse}
use Rattle.std.proofs.lemmas.List.Elements.{All-map, Contains-get_or}
use Rattle.std.proofs.lemmas.List.Kept.{AllPairs-cons}
use Rattle.std.proofs.lemmas.Map.Keys.{IsDistinct-IsPermutation}
use Rattle.std.proofs.lemmas.Map.Made.{AllPairs-from_IsDistinct, IsDistinct-from_AllPairs}

contains_at : {X : Type 0} (x : X) (xs : List X) (y : X) (place : ℕ) → place < length (x ∷ xs) → get_or (x ∷ xs) place y ≡ y → (x ≡ y) ⊎ Contains xs y
contains_at x xs y zero within at = inl at
contains_at x xs y (suc place) within at = inr (place, omega arith, at)

-- a member of a list with one more in front
pub contains-cons : {X : Type 0} (x : X) (xs : List X) (y : X) → Contains (x ∷ xs) y → (x ≡ y) ⊎ Contains xs y
contains-cons x xs y member = contains_at x xs y member.0 member.1 member.2

pub contains-head : {X : Type 0} (x : X) (xs : List X) → Contains (x ∷ xs) x
contains-head x xs = (0, omega arith, refl)

pub contains-tail : {X : Type 0} (x : X) (xs : List X) (y : X) → Contains xs y → Contains (x ∷ xs) y
contains-tail x xs y member = (suc member.0, omega (arith, member.1), member.2)

pub no_member : {X : Type 0} (x : X) → Contains [] x → ⊥
no_member x member = omega (arith, member.1)

-- members of a filtered list
filter_tail : {X : Type 0} (test : X → Bool) (first : X) (xs : List X) (x : X) → Contains (filter test xs) x → Contains (filter test (first ∷ xs)) x
filter_tail test first xs x member =
    elim (test first) as (λ b. Contains (cond b (first ∷ filter test xs) (filter test xs)) x) [
      | true ↦ contains-tail first (filter test xs) x member
      | false ↦ member
    ]

pub contains-filter : {X : Type 0} (test : X → Bool) (xs : List X) (x : X) → Contains xs x → test x ≡ true → Contains (filter test xs) x
contains-filter test [] x member holds = absurd (no_member x member)
contains-filter test (first ∷ xs) x member holds =
    elim (contains-cons first xs x member) [
      | inl here ↦
          let e : test first ≡ true = ap test here ∙ holds in
          rw e (subst (Contains (first ∷ filter test xs)) here (contains-head first (filter test xs)))
      | inr there ↦ filter_tail test first xs x (contains-filter test xs x there holds)
    ]

filter_cases : {X : Type 0} (test : X → Bool) (first : X) (xs : List X) (x : X) (b : Bool) → test first ≡ b → (Contains (filter test xs) x → Contains xs x × (test x ≡ true)) →
    Contains (cond b (first ∷ filter test xs) (filter test xs)) x → Contains (first ∷ xs) x × (test x ≡ true)
filter_cases test first xs x true is rest member =
    elim (contains-cons first (filter test xs) x member) [
      | inl here ↦ (subst (Contains (first ∷ xs)) here (contains-head first xs), sym (ap test here) ∙ is)
      | inr there ↦ let found = rest there in (contains-tail first xs x found.0, found.1)
    ]
filter_cases test first xs x false is rest member = let found = rest member in (contains-tail first xs x found.0, found.1)

pub from_filter : {X : Type 0} (test : X → Bool) (xs : List X) (x : X) → Contains (filter test xs) x → Contains xs x × (test x ≡ true)
from_filter test [] x member = absurd (no_member x member)
from_filter test (first ∷ xs) x member = filter_cases test first xs x (test first) refl (from_filter test xs x) member

-- members of a mapped list
pub contains-map : {X Y : Type 0} (f : X → Y) (xs : List X) (x : X) → Contains xs x → Contains (map f xs) (f x)
contains-map f [] x member = absurd (no_member x member)
contains-map f (first ∷ xs) x member =
    elim (contains-cons first xs x member) [
      | inl here ↦ subst (λ (y : _). Contains (f first ∷ map f xs) (f y)) here (contains-head (f first) (map f xs))
      | inr there ↦ contains-tail (f first) (map f xs) (f x) (contains-map f xs x there)
    ]

pub from_map : {X Y : Type 0} (f : X → Y) (xs : List X) (y : Y) → Contains (map f xs) y → (x : X) × Contains xs x × (f x ≡ y)
from_map f [] y member = absurd (no_member y member)
from_map f (first ∷ xs) y member =
    elim (contains-cons (f first) (map f xs) y member) [
      | inl here ↦ (first, contains-head first xs, here)
      | inr there ↦ let found = from_map f xs y there in (found.0, contains-tail first xs found.0 found.1, found.2)
    ]

-- what holds of each member
pub all_members : {X : Type 0} (P : X → Type 0) (xs : List X) → ((x : X) → Contains xs x → P x) → All P xs
all_members P xs each = λ k d within. each (get_or xs k d) (Contains-get_or xs k d within)

-- pairs of a list
pub pairs-tail : {X : Type 0} (R : X → X → Type 0) (x : X) (xs : List X) → AllPairs R (x ∷ xs) → AllPairs R xs
pairs-tail R x xs pairs = λ i j d order within. pairs (suc i) (suc j) d (omega arith) (omega arith)

pub pairs-head : {X : Type 0} (R : X → X → Type 0) (x : X) (xs : List X) → AllPairs R (x ∷ xs) → All (R x) xs
pairs-head R x xs pairs = λ k d within. pairs 0 (suc k) d (omega arith) (omega (arith, within))

pub pairs-map : {X Y : Type 0} (R : Y → Y → Type 0) (f : X → Y) (xs : List X) → AllPairs (λ x y. R (f x) (f y)) xs → AllPairs R (map f xs)
pairs-map R f [] pairs = λ i j d order within. absurd (omega arith)
pairs-map R f (x ∷ xs) pairs =
    AllPairs-cons R (f x) (map f xs)
    (All-map (R (f x)) f xs (pairs-head (λ x y. R (f x) (f y)) x xs pairs))
    (pairs-map R f xs (pairs-tail (λ x y. R (f x) (f y)) x xs pairs))

pub pairs-reverse : (xs : List ℕ) → AllPairs (λ p q. p < q) xs → AllPairs (λ p q. q < p) (reverse xs)
pairs-reverse xs rising = λ i j d order within.
    let size : length (reverse xs) ≡ length xs = length-reverse xs in
    let inside : j < length xs = omega arith in
    let first : get_or (reverse xs) i d ≡ get_or xs (length xs - 1 - i) d = get_or-reverse xs i d (omega arith) in
    let second : get_or (reverse xs) j d ≡ get_or xs (length xs - 1 - j) d = get_or-reverse xs j d inside in
    rw (first, second) (rising (length xs - 1 - j) (length xs - 1 - i) d (omega arith) (omega arith))

-- different numbers, sorted, rise
flips_by : (a b : Bool) → (a ≡ true → b ≡ true) → (b ≡ true → a ≡ true) → a ≡ b
flips_by true b there back = sym (there refl)
flips_by false true there back = back refl
flips_by false false there back = refl

eqb_flips : (x y : ℕ) → eqb x y ≡ eqb y x
eqb_flips x y = flips_by (eqb x y) (eqb y x) (λ e. (Decides-eqb y x).1 (sym ((Decides-eqb x y).0 e))) (λ e. (Decides-eqb x y).1 (sym ((Decides-eqb y x).0 e)))

pub pairs-sorted : (xs ys : List ℕ) → AllPairs (λ x y. x ≢ y) xs → IsPermutation xs ys → IsNonDecreasing ys → AllPairs (λ x y. x < y) ys
pairs-sorted xs ys once permutation rising = λ i j d order within.
    let distinct = AllPairs-from_IsDistinct Decides-eqb ys (IsDistinct-IsPermutation eqb eqb_flips xs ys permutation (IsDistinct-from_AllPairs Decides-eqb xs once)) in
    let differs = distinct i j d order within in
    let le = rising i j d (omega arith) within in
    omega arith
