-- A list with one member more, somewhere.
use Rattle.std.proofs.Common.{◌≡◌, ◌≢◌, zero, suc, ◌+◌, Bool, true, false, ◌&&◌, List, [], ◌∷◌, ◌++◌, length, get_or, refl, sym, ap, ◌∙◌, subst, inl, inr, arith, length-append}
use Rattle.std.specs.List.{list_all, All, AllPairs, Contains}
use Rattle.std.proofs.lemmas.List.{get_or_append_left, get_or-append-add}
use Rattle.std.proofs.lemmas.List.Elements.{All-append, All-cons, All-contains, Contains-append_left, Contains-append_right, Contains-append_cases, Contains-get_or}
use Rattle.std.proofs.lemmas.List.Folds.{list_all-append}
use Rattle.std.proofs.lemmas.List.Kept.{AllPairs-cons}

-- one list is another with a member more
pub record IsInserted {X : Type 0} (x : X) (old new : List X) : Type 0 where
  pub front : List X
  pub behind : List X
  pub old_is : old ≡ front ++ behind
  pub new_is : new ≡ front ++ x ∷ behind

pub all_left : {X : Type 0} (P : X → Type 0) (xs ys : List X) → All P (xs ++ ys) → All P xs
all_left P xs ys all = λ k d end. subst P (get_or_append_left xs ys d k end) (all k d (omega (arith, end, length-append xs ys)))

pub all_right : {X : Type 0} (P : X → Type 0) (xs ys : List X) → All P (xs ++ ys) → All P ys
all_right P xs ys all = λ k d end. subst P (get_or-append-add xs ys k d) (all (length xs + k) d (omega (arith, end, length-append xs ys)))

pairs_head : {X : Type 0} (R : X → X → Type 0) (x : X) (xs : List X) → AllPairs R (x ∷ xs) → All (R x) xs
pairs_head R x xs pairs = λ k d end. pairs 0 (suc k) d (omega arith) (omega (arith, end))

pairs_tail : {X : Type 0} (R : X → X → Type 0) (x : X) (xs : List X) → AllPairs R (x ∷ xs) → AllPairs R xs
pairs_tail R x xs pairs = λ i j d before end. pairs (suc i) (suc j) d (omega (arith, before)) (omega (arith, end))

pub pairs_append : {X : Type 0} (R : X → X → Type 0) (xs ys : List X) → AllPairs R xs → AllPairs R ys → ((x y : X) → Contains xs x → Contains ys y → R x y) → AllPairs R (xs ++ ys)
pairs_append R [] ys first second cross = second
pairs_append R (x ∷ xs) ys first second cross =
    AllPairs-cons R x (xs ++ ys)
    (All-append (R x) xs ys (pairs_head R x xs first) (λ k d end. cross x (get_or ys k d) (0, omega arith, refl) (Contains-get_or ys k d end)))
    (pairs_append R xs ys (pairs_tail R x xs first) second (λ a b here there. cross a b (suc here.0, omega (arith, here.1), here.2) there))

pub pairs_left : {X : Type 0} (R : X → X → Type 0) (xs ys : List X) → AllPairs R (xs ++ ys) → AllPairs R xs
pairs_left R [] ys pairs = λ i j d before end. absurd (omega (arith, end))
pairs_left R (x ∷ xs) ys pairs =
    AllPairs-cons R x xs (all_left (R x) xs ys (pairs_head R x (xs ++ ys) pairs)) (pairs_left R xs ys (pairs_tail R x (xs ++ ys) pairs))

pub pairs_right : {X : Type 0} (R : X → X → Type 0) (xs ys : List X) → AllPairs R (xs ++ ys) → AllPairs R ys
pairs_right R [] ys pairs = pairs
pairs_right R (x ∷ xs) ys pairs = pairs_right R xs ys (pairs_tail R x (xs ++ ys) pairs)

pub pairs_cross : {X : Type 0} (R : X → X → Type 0) (xs ys : List X) → AllPairs R (xs ++ ys) → (a b : X) → Contains xs a → Contains ys b → R a b
pairs_cross R [] ys pairs a b (place, within, at) there = absurd (omega (arith, within))
pairs_cross {X} R (x ∷ xs) ys pairs a b (zero, within, at) there =
    let P : X → Type 0 = λ c. R c b in
    subst P at (All-contains (R x) ys b (all_right (R x) xs ys (pairs_head R x (xs ++ ys) pairs)) there)
pairs_cross R (x ∷ xs) ys pairs a b (suc place, within, at) there =
    pairs_cross R xs ys (pairs_tail R x (xs ++ ys) pairs) a b (place, omega (arith, within), at) there

-- what holds of each
pub all_inserted : {X : Type 0} (P : X → Type 0) (x : X) (old new : List X) → IsInserted x old new → All P old → P x → All P new
all_inserted P x old new is all here =
    let parts : All P (is.front ++ is.behind) = rw is.old_is at all in
    rw is.new_is (All-append P is.front (x ∷ is.behind) (all_left P is.front is.behind parts) (All-cons P x is.behind here (all_right P is.front is.behind parts)))

pub all_taken : {X : Type 0} (P : X → Type 0) (x : X) (old new : List X) → IsInserted x old new → All P new → All P old
all_taken P x old new is all =
    let parts : All P (is.front ++ x ∷ is.behind) = rw is.new_is at all in
    let behind = all_right P is.front (x ∷ is.behind) parts in
    rw is.old_is (All-append P is.front is.behind (all_left P is.front (x ∷ is.behind) parts) (λ k d end. behind (suc k) d (omega (arith, end))))

pub member_inserted : {X : Type 0} (x : X) (old new : List X) → IsInserted x old new → Contains new x
member_inserted x old new is = rw is.new_is (Contains-append_right is.front (x ∷ is.behind) x (0, omega arith, refl))

pub test_inserted : {X : Type 0} (p : X → Bool) (x : X) (old new : List X) → IsInserted x old new → list_all p new ≡ (list_all p old && p x)
test_inserted p x old new is =
    ap (list_all p) is.new_is
    ∙ list_all-append p is.front (x ∷ is.behind)
    ∙ turned (list_all p is.front) (p x) (list_all p is.behind)
    ∙ ap (λ b. b && p x) (sym (list_all-append p is.front is.behind) ∙ ap (list_all p) (sym is.old_is))
  where
    turned : (a b c : Bool) → (a && (b && c)) ≡ ((a && c) && b)
    turned true true true = refl
    turned true true false = refl
    turned true false true = refl
    turned true false false = refl
    turned false b c = refl

after_front : {X : Type 0} (front behind : List X) (x : X) → AllPairs (λ a b. a ≢ b) (front ++ behind) → ((y : X) → Contains (front ++ behind) y → x ≢ y)
    → (a b : X) → Contains front a → Contains (x ∷ behind) b → a ≢ b
after_front {X} front behind x pairs other a b here (zero, within, at) = λ same. other a (Contains-append_left front behind a here) (at ∙ sym same)
after_front {X} front behind x pairs other a b here (suc place, within, at) =
    pairs_cross (λ a b. a ≢ b) front behind pairs a b here (place, omega (arith, within), at)

-- no member stands twice: the new one stood nowhere
pub once_inserted : {X : Type 0} (x : X) (old new : List X) → IsInserted x old new → AllPairs (λ a b. a ≢ b) old → (Contains old x → ⊥) → AllPairs (λ a b. a ≢ b) new
once_inserted {X} x old new is once fresh =
    let R : X → X → Type 0 = λ a b. a ≢ b in
    let parts : AllPairs R (is.front ++ is.behind) = rw is.old_is at once in
    let absent : Contains (is.front ++ is.behind) x → ⊥ = λ member. fresh (rw is.old_is member) in
    let other : (y : X) → Contains (is.front ++ is.behind) y → x ≢ y = λ y member same. absent (subst (Contains (is.front ++ is.behind)) (sym same) member) in
    let behind : All (R x) is.behind = λ k d end.
    other (get_or is.behind k d) (Contains-append_right is.front is.behind (get_or is.behind k d) (Contains-get_or is.behind k d end)) in
    rw is.new_is (pairs_append R is.front (x ∷ is.behind) (pairs_left R is.front is.behind parts)
    (AllPairs-cons R x is.behind behind (pairs_right R is.front is.behind parts))
    (λ a b here there. after_front is.front is.behind x parts other a b here there))

pub once_taken : {X : Type 0} (x : X) (old new : List X) → IsInserted x old new → AllPairs (λ a b. a ≢ b) new → AllPairs (λ a b. a ≢ b) old
once_taken {X} x old new is once =
    let R : X → X → Type 0 = λ a b. a ≢ b in
    let parts : AllPairs R (is.front ++ x ∷ is.behind) = rw is.new_is at once in
    let behind = pairs_right R is.front (x ∷ is.behind) parts in
    rw is.old_is (pairs_append R is.front is.behind (pairs_left R is.front (x ∷ is.behind) parts) (pairs_tail R x is.behind behind)
    (λ a b here there. pairs_cross R is.front (x ∷ is.behind) parts a b here (suc there.0, omega (arith, there.1), there.2)))

pub fresh_taken : {X : Type 0} (x : X) (old new : List X) → IsInserted x old new → AllPairs (λ a b. a ≢ b) new → Contains old x → ⊥
fresh_taken {X} x old new is once member =
    let R : X → X → Type 0 = λ a b. a ≢ b in
    let parts : AllPairs R (is.front ++ x ∷ is.behind) = rw is.new_is at once in
    let behind = pairs_right R is.front (x ∷ is.behind) parts in
    let there : Contains (is.front ++ is.behind) x = rw is.old_is at member in
    elim (Contains-append_cases is.front is.behind x there) [
      | inl first ↦ pairs_cross R is.front (x ∷ is.behind) parts x x first (0, omega arith, refl) refl
      | inr second ↦ All-contains (R x) is.behind x (pairs_head R x is.behind behind) second refl
    ]
