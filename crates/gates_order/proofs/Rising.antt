-- Numbers in layers: by what is counted of each, and then in their order.
use Rattle.std.proofs.Common.{◌≡◌, ℕ, zero, suc, ◌+◌, ◌<◌, ◌≤◌, ◌⊎◌, true, eqb, cond, List, [], ◌∷◌, ◌++◌, length, filter, get_or, All, Contains, sym, ap, ◌∙◌, subst, inl, inr, ⊎_elim, arith}
use Rattle.std.specs.List.{flat_map, range_with_len}
use Rattle.std.proofs.lemmas.Bool.{cases_Bool, cases_lt, eqb-true, eq-eqb}
use Rattle.std.proofs.lemmas.List.Elements.{All-append, All-cons, All-head, All-nil, All-tail, All-weaker, Contains-append_left, Contains-append_right}

module _ (count : ℕ → ℕ) where
  -- a number stands before another
  abbrev pub Before : ℕ → ℕ → Type 0
  Before first second = (count first < count second) ⊎ ((count first ≡ count second) × (first < second))

  abbrev pub Rise : List ℕ → Type 0
  Rise [] = Unit {0}
  Rise (n ∷ numbers) = All (Before n) numbers × Rise numbers

  rise-append : (xs ys : List ℕ) → Rise xs → Rise ys → All (λ x. All (Before x) ys) xs → Rise (xs ++ ys)
  rise-append [] ys left right across = right
  rise-append (x ∷ xs) ys left right across =
      (All-append (Before x) xs ys left.0 (All-head (λ z. All (Before z) ys) x xs across), rise-append xs ys left.1 right (All-tail (λ z. All (Before z) ys) x xs across))

  pub rise-at : (numbers : List ℕ) (i j : ℕ) → Rise numbers → i < j → j < length numbers → Before (get_or numbers i 0) (get_or numbers j 0)
  rise-at [] i j rise below lt = absurd (omega arith)
  rise-at (n ∷ numbers) i zero rise below lt = absurd (omega arith)
  rise-at (n ∷ numbers) zero (suc j) rise below lt = rise.0 j 0 (omega arith)
  rise-at (n ∷ numbers) (suc i) (suc j) rise below lt = rise-at numbers i j rise.1 (omega arith) (omega arith)

  -- one layer of numbers from one on
  abbrev pub at_level : ℕ → ℕ → ℕ → List ℕ
  at_level level first some = filter (λ number. eqb (count number) level) (range_with_len first some)

  abbrev pub IsAt : ℕ → ℕ → ℕ → ℕ → Type 0
  IsAt level first bound number = (count number ≡ level) × (first ≤ number) × (number < bound)

  level-are : (level first some : ℕ) → Rise (at_level level first some) × All (IsAt level first (first + some)) (at_level level first some)
  level-are level first zero = (tt, All-nil (IsAt level first (first + 0)))
  level-are level first (suc some) =
      let rest = level-are level (first + 1) some in
      let wider = All-weaker (IsAt level (first + 1) (first + 1 + some)) (IsAt level first (first + suc some)) (λ n is. (is.0, omega (arith, is.1), omega (arith, is.2))) (at_level level (first + 1) some) rest.1 in
      elim (cases_Bool (eqb (count first) level)) [
        | inl same ↦
            let here = eqb-true (count first) level same in
            subst (λ b. Rise (cond b (first ∷ at_level level (first + 1) some) (at_level level (first + 1) some)) × All (IsAt level first (first + suc some)) (cond b (first ∷ at_level level (first + 1) some) (at_level level (first + 1) some))) (sym same) (
              (All-weaker (IsAt level (first + 1) (first + 1 + some)) (Before first) (λ n is. inr (here ∙ sym is.0, omega (arith, is.1))) (at_level level (first + 1) some) rest.1, rest.0),
              All-cons (IsAt level first (first + suc some)) first (at_level level (first + 1) some) (here, omega arith, omega arith) wider,
            )
        | inr other ↦
            subst (λ b. Rise (cond b (first ∷ at_level level (first + 1) some) (at_level level (first + 1) some)) × All (IsAt level first (first + suc some)) (cond b (first ∷ at_level level (first + 1) some) (at_level level (first + 1) some))) (sym other)
            (rest.0, wider)
      ]

  level-has : (level first some number : ℕ) → count number ≡ level → first ≤ number → number < first + some → Contains (at_level level first some) number
  level-has level first zero number is least below = absurd (omega arith)
  level-has level first (suc some) number is least below =
      ⊎_elim
      (λ later. (let rest = level-has level (first + 1) some number is (omega arith) (omega arith) in
      elim (cases_Bool (eqb (count first) level)) [
        | inl same ↦ subst (λ b. Contains (cond b (first ∷ at_level level (first + 1) some) (at_level level (first + 1) some)) number) (sym same) (Contains-append_right (first ∷ []) (at_level level (first + 1) some) number rest)
        | inr other ↦ subst (λ b. Contains (cond b (first ∷ at_level level (first + 1) some) (at_level level (first + 1) some)) number) (sym other) rest
      ]))
      (λ now. (let same : first ≡ number = omega arith in
      let passes : eqb (count first) level ≡ true = eq-eqb (count first) level (ap count same ∙ is) in
      subst (λ b. Contains (cond b (first ∷ at_level level (first + 1) some) (at_level level (first + 1) some)) number) (sym passes) (0, omega arith, same)))
      (cases_lt first number)

  -- several layers
  abbrev pub levels : ℕ → ℕ → ℕ → List ℕ
  levels all level some = flat_map (λ l. at_level l 0 all) (range_with_len level some)

  abbrev pub IsFrom : ℕ → ℕ → ℕ → Type 0
  IsFrom level bound number = (level ≤ count number) × (number < bound)

  pub levels-are : (all level some : ℕ) → Rise (levels all level some) × All (IsFrom level all) (levels all level some)
  levels-are all level zero = (tt, All-nil (IsFrom level all))
  levels-are all level (suc some) =
      let here = level-are level 0 all in
      let rest = levels-are all (level + 1) some in
      let front = at_level level 0 all in
      let back = levels all (level + 1) some in
      let across = All-weaker (IsAt level 0 (0 + all)) (λ x. All (Before x) back)
      (λ x at. All-weaker (IsFrom (level + 1) all) (Before x) (λ y from. inl (omega (arith, at.0, from.0))) back rest.1) front here.1 in (
        rise-append front back here.0 rest.0 across,
        All-append (IsFrom level all) front back (All-weaker (IsAt level 0 (0 + all)) (IsFrom level all) (λ n is. (omega (arith, is.0), omega (arith, is.2))) front here.1)
            (All-weaker (IsFrom (level + 1) all) (IsFrom level all) (λ n is. (omega (arith, is.0), is.1)) back rest.1),
      )

  pub levels-have : (all level some number : ℕ) → number < all → level ≤ count number → count number < level + some → Contains (levels all level some) number
  levels-have all level zero number lt least below = absurd (omega arith)
  levels-have all level (suc some) number lt least below =
      ⊎_elim
      (λ later. Contains-append_right (at_level level 0 all) (levels all (level + 1) some) number (levels-have all (level + 1) some number lt (omega arith) (omega arith)))
      (λ now. Contains-append_left (at_level level 0 all) (levels all (level + 1) some) number (level-has level 0 all number (omega arith) (omega arith) (omega arith)))
      (cases_lt level (count number))
