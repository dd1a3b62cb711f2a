-- How often things stand in lists.
use Rattle.std.proofs.Common.{◌≡◌, ℕ, zero, suc, ◌+◌, ◌≤◌, inl, inr, Bool, false, eqb, cond, List, [], ◌∷◌, ◌++◌, map, refl, sym, ap, subst, ⊎_elim, arith}
use Rattle.std.proofs.lemmas.Bool.{cases_Bool, cases_eq, eqb-true, eq-eqb}
use Rattle.blif_flattening.specs.declared.model.Signal.{Signal}
use Rattle.blif_flattening.specs.Members.{Among, Apart}
use Rattle.blif_flattening.specs.Numbers.{same_signal}
use Rattle.blif_flattening.proofs.Numbering.{same_or_not}
use Rattle.blif_hierarchy.specs.Drivers.{count_where, times}

-- a test as a number
abbrev pub one_if : Bool → ℕ
one_if test = cond test 1 0

pub count_where-append : {X : Type 0} (test : X → Bool) (xs ys : List X) → count_where test (xs ++ ys) ≡ count_where test xs + count_where test ys
count_where-append test [] ys = omega arith
count_where-append test (x ∷ xs) ys = omega (arith, count_where-append test xs ys)

pub count_where-map : {X Y : Type 0} (test : Y → Bool) (f : X → Y) (xs : List X) → count_where test (map f xs) ≡ count_where (λ x. test (f x)) xs
count_where-map test f [] = refl
count_where-map test f (x ∷ xs) = omega (arith, count_where-map test f xs)

-- two tests that agree on what is there
pub count_where-same : {X : Type 0} (one other : X → Bool) (xs : List X) → ((x : X) → Among x xs → one x ≡ other x) → count_where one xs ≡ count_where other xs
count_where-same one other [] same = refl
count_where-same one other (x ∷ xs) same =
    let here : one_if (one x) ≡ one_if (other x) = ap one_if (same x (inl refl)) in
    omega (arith, here, count_where-same one other xs (λ y there. same y (inr there)))

-- a test that nothing passes
pub count_where-none : {X : Type 0} (test : X → Bool) (xs : List X) → ((x : X) → Among x xs → test x ≡ false) → count_where test xs ≡ 0
count_where-none test [] none = refl
count_where-none test (x ∷ xs) none =
    let here : one_if (test x) ≡ 0 = ap one_if (none x (inl refl)) in
    omega (arith, here, count_where-none test xs (λ y there. none y (inr there)))

-- what stands there is counted
pub times-some : (x : ℕ) (xs : List ℕ) → Among x xs → 1 ≤ times x xs
times-some x [] none = absurd none
times-some x (y ∷ xs) (inl here) = let one : one_if (eqb y x) ≡ 1 = ap one_if (eq-eqb y x here) in omega (arith, one)
times-some x (y ∷ xs) (inr there) = omega (arith, times-some x xs there)

-- and what is counted stands there
pub times-among : (x : ℕ) (xs : List ℕ) → 1 ≤ times x xs → Among x xs
times-among x [] some = absurd (omega arith)
times-among x (y ∷ xs) some =
    elim (cases_Bool (eqb y x)) [
      | inl same ↦ inl (eqb-true y x same)
      | inr differs ↦ let none : one_if (eqb y x) ≡ 0 = ap one_if differs in inr (times-among x xs (omega arith))
    ]

-- a list without one of a number
without : ℕ → List ℕ → List ℕ
without x [] = []
without x (y ∷ ys) = cond (eqb y x) ys (y ∷ without x ys)

abbrev IsWithout : ℕ → List ℕ → List ℕ → Type 0
IsWithout x ys rest = (test : ℕ → Bool) → count_where test ys ≡ one_if (test x) + count_where test rest

without-is : (x : ℕ) (ys : List ℕ) → 1 ≤ times x ys → IsWithout x ys (without x ys)
unfolding without
without-is x [] some = absurd (omega arith)
without-is x (y ∷ ys) some =
    elim (cases_Bool (eqb y x)) [
      | inl same ↦
          let rest : ys ≡ without x (y ∷ ys) = sym (ap (λ b. cond b ys (y ∷ without x ys)) same) in
          subst (λ zs. IsWithout x (y ∷ ys) zs) rest
          (λ test. ap (λ z. one_if (test z) + count_where test ys) (eqb-true y x same))
      | inr differs ↦
          let none : one_if (eqb y x) ≡ 0 = ap one_if differs in
          let rest : y ∷ without x ys ≡ without x (y ∷ ys) = sym (ap (λ b. cond b ys (y ∷ without x ys)) differs) in
          subst (λ zs. IsWithout x (y ∷ ys) zs) rest
          (λ test. let later = without-is x ys (omega arith) test in omega (arith, later))
    ]

-- where each number stands as often in two lists, so do those that pass a test
pub count_where-alike : (test : ℕ → Bool) (xs ys : List ℕ) → ((x : ℕ) → times x xs ≡ times x ys) → count_where test xs ≡ count_where test ys
count_where-alike test [] [] alike = refl
count_where-alike test [] (y ∷ ys) alike = absurd (let bad = alike y in omega (arith, bad, times-some y (y ∷ ys) (inl refl)))
count_where-alike test (x ∷ xs) ys alike =
    let is = without-is x ys (subst (λ n. 1 ≤ n) (alike x) (times-some x (x ∷ xs) (inl refl))) in
    let rest = count_where-alike test xs (without x ys) (λ z. let one = is (λ other. eqb other z) in let both = alike z in omega (arith, one, both)) in
    omega (arith, is test, rest)

-- how often a signal stands in a list
abbrev pub times_of : Signal → List Signal → ℕ
times_of signal signals = count_where (same_signal signal) signals

pub times_of-none : (signal : Signal) (signals : List Signal) → (Among signal signals → ⊥) → times_of signal signals ≡ 0
times_of-none signal [] none = refl
times_of-none signal (first ∷ signals) none =
    ⊎_elim (λ same. absurd (none (inl (sym same.1))))
    (λ differs. let zero_here : one_if (same_signal signal first) ≡ 0 = ap one_if differs.0 in
    omega (arith, zero_here, times_of-none signal signals (λ there. none (inr there))))
    (same_or_not signal first)

-- where nothing is twice in a list, what is there is there once
pub times_of-once : (signal : Signal) (signals : List Signal) → Apart signals → Among signal signals → times_of signal signals ≡ 1
times_of-once signal [] apart none = absurd none
times_of-once signal (first ∷ signals) apart there =
    ⊎_elim
    (λ same. let one : one_if (same_signal signal first) ≡ 1 = ap one_if same.0 in
    omega (arith, one, times_of-none signal signals (λ later. apart.0 (subst (λ s. Among s signals) same.1 later))))
    (λ differs. let none : one_if (same_signal signal first) ≡ 0 = ap one_if differs.0 in
    ⊎_elim (λ here. absurd (differs.1 (sym here))) (λ later. omega (arith, none, times_of-once signal signals apart.1 later)) there)
    (same_or_not signal first)

pub times-none : (x : ℕ) (xs : List ℕ) → (Among x xs → ⊥) → times x xs ≡ 0
times-none x xs none = by_count (times x xs) refl
  where
    by_count : (n : ℕ) → times x xs ≡ n → times x xs ≡ 0
    by_count zero is = is
    by_count (suc n) is = absurd (none (times-among x xs (omega (arith, is))))

pub times-once : (x : ℕ) (xs : List ℕ) → Apart xs → Among x xs → times x xs ≡ 1
times-once x [] apart none = absurd none
times-once x (y ∷ xs) apart there =
    ⊎_elim
    (λ same. let one : one_if (eqb y x) ≡ 1 = ap one_if (eq-eqb y x same) in
    omega (arith, one, times-none x xs (λ later. apart.0 (subst (λ z. Among z xs) (sym same) later))))
    (λ differs. ⊎_elim (λ here. absurd (differs here))
    (λ later. let rest = times-once x xs apart.1 later in
    elim (cases_Bool (eqb y x)) [
      | inl same ↦ absurd (differs (eqb-true y x same))
      | inr not ↦ let none : one_if (eqb y x) ≡ 0 = ap one_if not in omega (arith, none, rest)
    ]) there)
    (cases_eq y x)
