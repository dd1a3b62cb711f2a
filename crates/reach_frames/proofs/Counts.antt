-- How many states meet clauses falls where one of them is kept out.
use Rattle.std.proofs.Common.{◌≡◌, ℕ, zero, suc, ◌+◌, ◌<◌, ◌≤◌, Bool, true, false, cond, List, [], ◌∷◌, length, get_or, map, ℤ, refl, sym, ap, ◌∙◌, inl, inr, arith}
use Rattle.std.specs.List.{count_by, Contains}
use Rattle.std.proofs.lemmas.Bool.{cases_Bool, true≢false}
use Rattle.std.proofs.lemmas.List.{length-map, get_or-map}
use Rattle.std.proofs.lemmas.List.Elements.{Contains-append_left, Contains-append_right}
use Rattle.std.proofs.lemmas.List.Sums.{sum_by-cons, sum_by-le-sum_by}
use Rattle.reach_frames.specs.Bits.{is_met, all_bits, left}

count_one : {X : Type 0} (p q : X → Bool) (x : X) → (q x ≡ true → p x ≡ true) → cond (q x) 1 0 ≤ cond (p x) 1 0
count_one p q x less = elim (cases_Bool (q x)) [ inl here ↦ rw (here, less here) (omega arith) | inr none ↦ rw none (omega arith) ]

count_le : {X : Type 0} (p q : X → Bool) (xs : List X) → ((x : X) → q x ≡ true → p x ≡ true) → count_by q xs ≤ count_by p xs
count_le p q xs less = sum_by-le-sum_by (λ x. cond (q x) 1 0) (λ x. cond (p x) 1 0) xs (λ x. count_one p q x (less x))

count_first : {X : Type 0} (p : X → Bool) (x : X) (xs : List X) → count_by p (x ∷ xs) ≡ cond (p x) 1 0 + count_by p xs
count_first p x xs = sum_by-cons (λ x. cond (p x) 1 0) x xs

counted : (b : Bool) → b ≡ true → cond {A = ℕ} b 1 0 ≡ 1
counted true is = refl
counted false is = absurd (true≢false (sym is))

uncounted : (b : Bool) → b ≡ false → cond {A = ℕ} b 1 0 ≡ 0
uncounted true is = absurd (true≢false is)
uncounted false is = refl

count_falls : {X : Type 0} (p q : X → Bool) (xs : List X) (x : X) (place : ℕ) → ((y : X) → q y ≡ true → p y ≡ true) → place < length xs → get_or xs place x ≡ x → p x ≡ true → q x ≡ false → count_by q xs < count_by p xs
count_falls p q [] x place less within at met missed = absurd (omega arith)
count_falls p q (y ∷ xs) x zero less within at met missed =
    let mine : p y ≡ true = ap p at ∙ met in
    let none : q y ≡ false = ap q at ∙ missed in
    omega (arith, counted (p y) mine, uncounted (q y) none, count_le p q xs less, count_first p y xs, count_first q y xs)
count_falls p q (y ∷ xs) x (suc place) less within at met missed =
    let rest = count_falls p q xs x place less (omega arith) at met missed in
    omega (arith, rest, count_one p q y (less y), count_first p y xs, count_first q y xs)

map_contains : {X Y : Type 0} (f : X → Y) (xs : List X) (x : X) → Contains xs x → Contains (map f xs) (f x)
map_contains f xs x member =
    (member.0, omega (arith, member.1, length-map xs f), get_or-map f xs member.0 x (f x) member.1 ∙ ap f member.2)

-- every state is among the lists of its bits
pub all_bits-contains : (state : List Bool) → Contains (all_bits (length state)) state
unfolding all_bits
all_bits-contains [] = (0, omega arith, refl)
all_bits-contains (false ∷ state) =
    let width = length state in
    Contains-append_left (map (λ bits. false ∷ bits) (all_bits width)) (map (λ bits. true ∷ bits) (all_bits width)) (false ∷ state)
    (map_contains (λ bits. false ∷ bits) (all_bits width) state (all_bits-contains state))
all_bits-contains (true ∷ state) =
    let width = length state in
    Contains-append_right (map (λ bits. false ∷ bits) (all_bits width)) (map (λ bits. true ∷ bits) (all_bits width)) (true ∷ state)
    (map_contains (λ bits. true ∷ bits) (all_bits width) state (all_bits-contains state))

-- fewer states are left where one is kept out and none comes back
pub left_falls : (width : ℕ) (old new : List (List ℤ)) (state : List Bool) → length state ≡ width
    → ((other : List Bool) → is_met new other ≡ true → is_met old other ≡ true) → is_met old state ≡ true → is_met new state ≡ false → left width new < left width old
unfolding left
left_falls width old new state size less met missed =
    let member : Contains (all_bits width) state = rw size at (all_bits-contains state) in
    count_falls (is_met old) (is_met new) (all_bits width) state member.0 less member.1 member.2 met missed
