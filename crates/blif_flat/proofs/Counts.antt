-- Lists of numbers by how often each stands there.
use Rattle.std.proofs.Common.{◌≡◌, ℕ, zero, suc, ◌+◌, ◌<◌, ◌≤◌, inl, inr, eqb, List, [], ◌∷◌, length, get_or, Contains, All, refl, sym, ap, subst, ⊎_elim, arith}
use Rattle.std.proofs.lemmas.Bool.{cases_lt, cases_eq, eq-eqb}
use Rattle.std.proofs.lemmas.List.Elements.{All-from_get_or}
use Rattle.blif_flattening.specs.Members.{Among, Apart}
use Rattle.blif_flattening.proofs.Members.{Among-at, Among-place}
use Rattle.netlist.specs.Sound.{AreApart}
use Rattle.blif_hierarchy.specs.Drivers.{times}
use Rattle.blif_hierarchy.proofs.Few.{no-more}
use Rattle.blif_hierarchy.proofs.Counting.{one_if, times-some, times-among}

first-counted : (x : ℕ) (xs : List ℕ) → times x (x ∷ xs) ≡ 1 + times x xs
first-counted x xs = let one : one_if (eqb x x) ≡ 1 = ap one_if (eq-eqb x x refl) in omega (arith, one)

apart-few : (xs : List ℕ) → ((k : ℕ) → times k xs ≤ 1) → Apart xs
apart-few [] few = tt
apart-few (x ∷ xs) few = (
  λ there. let one = first-counted x xs in let some = times-some x xs there in let most = few x in absurd (omega (arith, one, some, most)),
  apart-few xs (λ k. let most = few k in omega (arith, most)),
)

by-place : (xs : List ℕ) → Apart xs → AreApart xs
by-place [] apart i j i_in j_in same = absurd (omega arith)
by-place (x ∷ xs) apart zero zero i_in j_in same = refl
by-place (x ∷ xs) apart zero (suc j) i_in j_in same = absurd (apart.0 (subst (λ k. Among k xs) (sym same) (Among-at xs j 0 (omega arith))))
by-place (x ∷ xs) apart (suc i) zero i_in j_in same = absurd (apart.0 (subst (λ k. Among k xs) same (Among-at xs i 0 (omega arith))))
by-place (x ∷ xs) apart (suc i) (suc j) i_in j_in same = ap suc (by-place xs apart.1 i j (omega arith) (omega arith) same)

-- what stands once at the most, is apart
pub apart-counted : (xs : List ℕ) → ((k : ℕ) → times k xs ≤ 1) → AreApart xs
apart-counted xs few = by-place xs (apart-few xs few)

-- what stands there has a place
pub contains-counted : (xs : List ℕ) (k : ℕ) → 1 ≤ times k xs → Contains xs k
contains-counted xs k some = Among-place k k xs (times-among k xs some)

-- where no number from a limit on stands there, all are below it
pub below-counted : (xs : List ℕ) (limit : ℕ) → ((k : ℕ) → limit ≤ k → times k xs ≡ 0) → All (λ x. x < limit) xs
below-counted xs limit none =
    All-from_get_or (λ x. x < limit) xs 0
    (λ i lt. ⊎_elim (λ below. below)
    (λ past. let some = times-some (get_or xs i 0) xs (Among-at xs i 0 lt) in absurd (omega (arith, none (get_or xs i 0) past, some)))
    (cases_lt (get_or xs i 0) limit))

-- the numbers below a limit
up_to : ℕ → List ℕ
up_to zero = []
up_to (suc limit) = limit ∷ up_to limit

up-length : (limit : ℕ) → length (up_to limit) ≡ limit
unfolding up_to
up-length zero = refl
up-length (suc limit) = ap suc (up-length limit)

up-there : (limit k : ℕ) → k < limit → Among k (up_to limit)
unfolding up_to
up-there zero k lt = absurd (omega arith)
up-there (suc limit) k lt = ⊎_elim (λ same. inl (sym same)) (λ differs. inr (up-there limit k (grind (arith, differs)))) (cases_eq k limit)

-- of numbers below a limit that are apart there are no more than the limit
pub few-counted : (xs : List ℕ) (limit : ℕ) → ((k : ℕ) → times k xs ≤ 1) → ((k : ℕ) → limit ≤ k → times k xs ≡ 0) → length xs ≤ limit
few-counted xs limit few none =
    let all = no-more xs (up_to limit) (apart-few xs few)
    (λ k there. up-there limit k
    (⊎_elim (λ below. below) (λ past. let some = times-some k xs there in absurd (omega (arith, none k past, some))) (cases_lt k limit))) in
    omega (arith, all, up-length limit)
