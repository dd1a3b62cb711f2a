-- Lists of numbers by their places.
use Rattle.std.proofs.Common.{◌≡◌, ◌≢◌, ℕ, ◌+◌, ◌-◌, ◌<◌, ◌≤◌, ◌⊎◌, inl, inr, List, [], ◌∷◌, ◌++◌, length, take, get_or, refl, ap, sym, ◌∙◌, ⊎_elim, arith}
use Rattle.std.proofs.lemmas.List.{get_or_append_left, get_or_push, length_push, get_or-take, length-take}
use Rattle.std.proofs.lemmas.Bool.{cases_lt, cases_eq}
use Rattle.netlist_order.specs.Graph.{Occurs}
use Rattle.netlist_order.specs.State.{without_last}
use Rattle.netlist_order.specs.Sound.{IsRising}

-- a place of a list with one more member is old, or the last one
pub pushed_place : (i n : ℕ) → i < n + 1 → (i < n) ⊎ (i ≡ n)
pushed_place i n lt = ⊎_elim (λ below. inl below) (λ above. inr (omega arith)) (cases_lt i n)

-- a number occurs in a list with one more member
pub Occurs-push : (x y : ℕ) (xs : List ℕ) → Occurs x xs → Occurs x (xs ++ y ∷ [])
Occurs-push x y xs occurs = record {
  place = occurs.place;
  within = omega (arith, occurs.within, length_push xs y);
  is = get_or_append_left xs (y ∷ []) 0 occurs.place occurs.within ∙ occurs.is;
}

pub Occurs-pushed : (y : ℕ) (xs : List ℕ) → Occurs y (xs ++ y ∷ [])
Occurs-pushed y xs = record {
  place = length xs;
  within = omega (arith, length_push xs y);
  is = get_or_push xs y 0 (length xs) refl;
}

pub from_pushed : (x y : ℕ) (xs : List ℕ) → Occurs x (xs ++ y ∷ []) → Occurs x xs ⊎ (x ≡ y)
from_pushed x y xs occurs =
    ⊎_elim
    (λ old. inl (record { place = occurs.place; within = old; is = sym (get_or_append_left xs (y ∷ []) 0 occurs.place old) ∙ occurs.is }))
    (λ last. inr (sym occurs.is ∙ get_or_push xs y 0 occurs.place (sym last)))
    (pushed_place occurs.place (length xs) (omega (arith, occurs.within, length_push xs y)))

-- the first members of a list
pub from_take : (x n : ℕ) (xs : List ℕ) → Occurs x (take n xs) → Occurs x xs
from_take x n xs occurs =
    let lt : occurs.place < n = omega (arith, occurs.within, length-take n xs) in
    record {
      place = occurs.place;
      within = omega (arith, occurs.within, length-take n xs);
      is = sym (get_or-take n xs occurs.place 0 lt) ∙ occurs.is;
    }

pub Occurs-take : (x n : ℕ) (xs : List ℕ) (occurs : Occurs x xs) → occurs.place < n → Occurs x (take n xs)
Occurs-take x n xs occurs lt = record {
  place = occurs.place;
  within = omega (arith, occurs.within, lt, length-take n xs);
  is = get_or-take n xs occurs.place 0 lt ∙ occurs.is;
}

-- a member that is not the last one
pub Occurs-without_last : (x y i : ℕ) (xs : List ℕ) → i + 1 ≡ length xs → get_or xs i 0 ≡ y → x ≢ y → Occurs x xs → Occurs x (without_last xs)
Occurs-without_last x y i xs last is other occurs =
    ⊎_elim
    (λ same. absurd (other (sym occurs.is ∙ ap (λ k. get_or xs k 0) same ∙ is)))
    (λ differs. Occurs-take x (length xs - 1) xs occurs (omega (arith, occurs.within)))
    (cases_eq occurs.place i)

-- lists that rise
pub IsRising-push : (xs : List ℕ) (y : ℕ) → IsRising xs → ((i : ℕ) → i < length xs → get_or xs i 0 < y) → IsRising (xs ++ y ∷ [])
IsRising-push xs y rises below i j lt within =
    ⊎_elim
    (λ old. rw (get_or_append_left xs (y ∷ []) 0 i (omega arith), get_or_append_left xs (y ∷ []) 0 j old) (rises i j lt old))
    (λ last. let less : i < length xs = omega arith in rw (get_or_append_left xs (y ∷ []) 0 i less, get_or_push xs y 0 j (sym last)) (below i less))
    (pushed_place j (length xs) (omega (arith, within, length_push xs y)))

pub IsRising-take : (xs : List ℕ) (n : ℕ) → IsRising xs → IsRising (take n xs)
IsRising-take xs n rises i j lt within =
    let less : j < n = omega (arith, within, length-take n xs) in
    let more : i < n = omega arith in
    rw (get_or-take n xs i 0 more, get_or-take n xs j 0 less) (rises i j lt (omega (arith, within, length-take n xs)))

-- nothing in a rising list is above its last member
pub last_most : (xs : List ℕ) (i last x : ℕ) → IsRising xs → i + 1 ≡ length xs → get_or xs i 0 ≡ last → Occurs x xs → x ≤ last
last_most xs i last x rises ends is occurs =
    ⊎_elim
    (λ below. let lt = rises occurs.place i below (omega arith) in omega (arith, lt, occurs.is, is))
    (λ above. let same : occurs.place ≡ i = omega (arith, occurs.within) in omega (arith, occurs.is, is, ap (λ k. get_or xs k 0) same))
    (cases_lt occurs.place i)

pub last_occurs : (xs : List ℕ) (i last : ℕ) → i + 1 ≡ length xs → get_or xs i 0 ≡ last → Occurs last xs
last_occurs xs i last ends is = record { place = i; within = omega arith; is = is }

-- and all of the others are below it
pub others_below : (xs : List ℕ) (i last x : ℕ) → IsRising xs → i + 1 ≡ length xs → get_or xs i 0 ≡ last → Occurs x (without_last xs) → x < last
others_below xs i last x rises ends is occurs =
    let lt : occurs.place < length xs - 1 = omega (arith, occurs.within, length-take (length xs - 1) xs) in
    let less = rises occurs.place i (omega arith) (omega arith) in
    omega (arith, less, is, occurs.is, get_or-take (length xs - 1) xs occurs.place 0 lt)
