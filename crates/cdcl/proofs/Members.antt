-- Different members of a list are no more than the list is long.
use Rattle.std.proofs.Common.{◌≡◌, ◌≢◌, ℕ, zero, suc, ◌<◌, ◌≤◌, true, List, [], ◌∷◌, ◌++◌, length, get_or, Some, None, eqb, eq-eqb, refl, sym, subst, arith}
use Rattle.std.specs.List.{All, AllPairs, Contains, list_any}
use Rattle.std.proofs.lemmas.Bool.Decides.{Decides-eqb}
use Rattle.std.proofs.lemmas.List.{length-append}
use Rattle.std.proofs.lemmas.List.Elements.{All-contains, Contains-append_left, Contains-append_right}
use Rattle.std.proofs.lemmas.List.Folds.{list_any_at}
use Rattle.std.proofs.lemmas.List.Sums.{sum_by-cons}
use Rattle.std.proofs.lemmas.Map.Made.{IsDistinct-from_AllPairs, length-le_from_is_member}
use Rattle.std.proofs.lemmas.Map.Steps.{length-le_from_distinct_below}
use Rattle.std.proofs.lemmas.Cmp.{nat_eq_equiv}
use Rattle.clauses.specs.Live.{Numbered, clause_of}
use Rattle.clauses.proofs.Soundness.{member_from_any}
use Rattle.clause_store.specs.Stored.{place_words, stored_words}

any_from_contains : (xs : List ℕ) (x : ℕ) → Contains xs x → list_any (eqb x) xs ≡ true
any_from_contains xs x there = list_any_at (eqb x) xs there.0 x there.1 (eq-eqb x (get_or xs there.0 x) (sym there.2))

contains_from_any : (xs : List ℕ) (x : ℕ) → list_any (eqb x) xs ≡ true → Contains xs x
contains_from_any xs x some =
    let found = member_from_any (eqb x) xs some in
    subst (Contains xs) (sym ((Decides-eqb x found.0).0 found.2)) found.1

pub few_members : (xs ys : List ℕ) → AllPairs (λ x y. x ≢ y) xs → All (Contains ys) xs → length xs ≤ length ys
few_members xs ys once each =
    length-le_from_is_member nat_eq_equiv xs ys (IsDistinct-from_AllPairs Decides-eqb xs once)
    (λ x there. any_from_contains ys x (All-contains (Contains ys) xs x each (contains_from_any xs x there)))

pub few_below : (xs : List ℕ) (end : ℕ) → AllPairs (λ x y. x ≢ y) xs → All (λ x. x < end) xs → length xs ≤ end
few_below xs end once each =
    length-le_from_distinct_below xs end (IsDistinct-from_AllPairs Decides-eqb xs once)
    (λ x there. All-contains (λ y. y < end) xs x each (contains_from_any xs x there))

-- the literals of all live clauses
pub all_literals : Numbered ℕ → List ℕ
all_literals [] = []
all_literals (None ∷ clauses) = all_literals clauses
all_literals (Some clause ∷ clauses) = clause ++ all_literals clauses

pub length_all : (clauses : Numbered ℕ) → length (all_literals clauses) ≡ stored_words clauses
unfolding all_literals
length_all [] = refl
length_all (None ∷ clauses) = omega (arith, length_all clauses, sum_by-cons place_words None clauses)
length_all (Some clause ∷ clauses) =
    omega (arith, length_all clauses, sum_by-cons place_words (Some clause) clauses, length-append clause (all_literals clauses))

stands_at : (clauses : Numbered ℕ) (place : ℕ) (clause : List ℕ) (literal : ℕ) → get_or clauses place None ≡ Some clause → Contains clause literal → Contains (all_literals clauses) literal
unfolding all_literals
stands_at [] place clause literal at there = cc
stands_at (None ∷ clauses) zero clause literal at there = cc
stands_at (None ∷ clauses) (suc place) clause literal at there = stands_at clauses place clause literal at there
stands_at (Some first ∷ clauses) zero clause literal at there =
    let same : clause ≡ first = cc in
    Contains-append_left first (all_literals clauses) literal (subst (λ (c : List ℕ). Contains c literal) same there)
stands_at (Some first ∷ clauses) (suc place) clause literal at there =
    Contains-append_right first (all_literals clauses) literal (stands_at clauses place clause literal at there)

pub stands_in : (clauses : Numbered ℕ) (number : ℕ) (clause : List ℕ) (literal : ℕ) → clause_of clauses number ≡ Some clause → Contains clause literal → Contains (all_literals clauses) literal
stands_in clauses zero clause literal live there = cc
stands_in clauses (suc place) clause literal live there = stands_at clauses place clause literal live there

-- the number of a live clause
some_within : (clauses : Numbered ℕ) (place : ℕ) (clause : List ℕ) → get_or clauses place None ≡ Some clause → place < length clauses
some_within [] place clause at = cc
some_within (first ∷ clauses) zero clause at = omega arith
some_within (first ∷ clauses) (suc place) clause at = let rest = some_within clauses place clause at in omega arith

pub number_within : (clauses : Numbered ℕ) (number : ℕ) (clause : List ℕ) → clause_of clauses number ≡ Some clause → (0 < number) × (number ≤ length clauses)
number_within clauses zero clause live = cc
number_within clauses (suc place) clause live = (omega arith, omega (arith, some_within clauses place clause live))
