-- What is counted of each table is counted once along their order by depths.
use Rattle.std.proofs.Common.{◌≡◌, inl, inr, ℕ, zero, suc, ◌+◌, ◌≤◌, ◌<◌, ◌==◌, Bool, true, false, cond, List, [], ◌∷◌, length, refl, ap, ◌∙◌, arith}
use Rattle.std.specs.List.{filter, flat_map, range_with_len, sum_by}
use Rattle.std.proofs.lemmas.Bool.{cases_Bool, eqb-true}
use Rattle.std.proofs.lemmas.List.Concat.{flat_map-cons}
use Rattle.std.proofs.lemmas.List.Sums.{sum_by-append, sum_by-cons, sum_by-le-sum_by}
use Rattle.gates_order.specs.Depths.{depth_of, layer, order_of}
use Rattle.netlist.specs.declared.table.Table.{Table}
use Rattle.netlist.specs.Sound.{table_at}

-- a sum over lists one behind another
pub sum-flat : {X : Type 0} → (f : X → ℕ) (list : ℕ → List X) (numbers : List ℕ) → sum_by f (flat_map list numbers) ≡ sum_by (λ n. sum_by f (list n)) numbers
sum-flat f list [] = refl
sum-flat {X} f list (n ∷ numbers) =
    let whole = ap (λ (l : List X). sum_by f l) (flat_map-cons list n numbers) in
    omega (arith, whole, sum_by-append f (list n) (flat_map list numbers), sum-flat f list numbers, sum_by-cons (λ k. sum_by f (list k)) n numbers)

-- a sum of sums
sum-both : (f g : ℕ → ℕ) (numbers : List ℕ) → sum_by (λ n. f n + g n) numbers ≡ sum_by f numbers + sum_by g numbers
sum-both f g [] = refl
sum-both f g (n ∷ numbers) = omega (arith, sum_by-cons (λ k. f k + g k) n numbers, sum_by-cons f n numbers, sum_by-cons g n numbers, sum-both f g numbers)

sum-none : (numbers : List ℕ) → sum_by (λ n. 0) numbers ≡ 0
sum-none [] = refl
sum-none (n ∷ numbers) = omega (arith, sum_by-cons (λ (k : ℕ). 0) n numbers, sum-none numbers)

-- a number stands at most once in a range, and not in one that begins behind it
pick-none : (value size first count : ℕ) → value < first → sum_by (λ n. cond (value == n) size 0) (range_with_len first count) ≡ 0
pick-none value size first zero low = refl
pick-none value size first (suc count) low =
    let here : cond (value == first) size 0 ≡ 0 =
    elim (cases_Bool (value == first)) [ inl same ↦ (let e = eqb-true value first same in absurd (omega arith)) | inr other ↦ rw other refl ] in
    omega (arith, sum_by-cons (λ n. cond (value == n) size 0) first (range_with_len (first + 1) count), pick-none value size (first + 1) count (omega arith), here)

pick-once : (value size first count : ℕ) → sum_by (λ n. cond (value == n) size 0) (range_with_len first count) ≤ size
pick-once value size first zero = omega arith
pick-once value size first (suc count) =
    let whole = sum_by-cons (λ n. cond (value == n) size 0) first (range_with_len (first + 1) count) in
    elim (cases_Bool (value == first)) [
      | inl same ↦ (
          let e = eqb-true value first same in
          let here : cond (value == first) size 0 ≡ size = rw same refl in
          omega (arith, whole, here, pick-none value size (first + 1) count (omega arith))
          )
      | inr other ↦ (
          let here : cond (value == first) size 0 ≡ 0 = rw other refl in
          omega (arith, whole, here, pick-once value size (first + 1) count)
          )
    ]

-- numbers that are sorted by a depth
module _ (depth f : ℕ → ℕ) where
  abbrev at_depth : List ℕ → ℕ → ℕ
  at_depth numbers d = sum_by f (filter (λ n. depth n == d) numbers)

  one-sorted : (n : ℕ) (numbers : List ℕ) (d : ℕ) → at_depth (n ∷ numbers) d ≤ cond (depth n == d) (f n) 0 + at_depth numbers d
  one-sorted n numbers d = by (depth n == d)
    where
      by : (b : Bool) → sum_by f (cond b (n ∷ filter (λ k. depth k == d) numbers) (filter (λ k. depth k == d) numbers)) ≤ cond b (f n) 0 + at_depth numbers d
      by true = omega (arith, sum_by-cons f n (filter (λ k. depth k == d) numbers))
      by false = omega arith

  pub sorted-most : (first count : ℕ) (numbers : List ℕ) → sum_by (at_depth numbers) (range_with_len first count) ≤ sum_by f numbers
  sorted-most first count [] = omega (arith, sum-none (range_with_len first count))
  sorted-most first count (n ∷ numbers) =
      let depths = range_with_len first count in
      let split = sum_by-le-sum_by (at_depth (n ∷ numbers)) (λ d. cond (depth n == d) (f n) 0 + at_depth numbers d) depths (one-sorted n numbers) in
      omega (
        arith,
        split,
        sum-both (λ d. cond (depth n == d) (f n) 0) (at_depth numbers) depths,
        pick-once (depth n) (f n) first count,
        sorted-most first count numbers,
        sum_by-cons f n numbers,
      )

-- what is counted of all, place by place
pub sum-places : {X : Type 0} → (g : X → ℕ) (value : List X → ℕ → ℕ) → ((x : X) (xs : List X) → value (x ∷ xs) 0 ≡ g x)
    → ((x : X) (xs : List X) (k : ℕ) → value (x ∷ xs) (suc k) ≡ value xs k)
    → (xs : List X) (f : ℕ → ℕ) (first : ℕ) → ((k : ℕ) → f (first + k) ≡ value xs k) → sum_by f (range_with_len first (length xs)) ≡ sum_by g xs
sum-places g value start next [] f first each = refl
sum-places g value start next (x ∷ xs) f first each =
    let here : f first ≡ g x = let e : first ≡ first + 0 = omega arith in ap f e ∙ each 0 ∙ start x xs in
    let rest = sum-places g value start next xs f (first + 1) (λ k.
    let e : first + 1 + k ≡ first + suc k = omega arith in ap f e ∙ each (suc k) ∙ next x xs k) in
    omega (arith, sum_by-cons f first (range_with_len (first + 1) (length xs)), sum_by-cons g x xs, here, rest)

-- what is counted of each table
pub order-most : (g : Table → ℕ) (tables : List Table) → sum_by (λ n. g (table_at tables n)) (order_of tables) ≤ sum_by g tables
order-most g tables =
    let f : ℕ → ℕ = λ n. g (table_at tables n) in
    let numbers = range_with_len 0 (length tables) in
    omega (
      arith,
      sum-flat f (layer tables) (range_with_len 0 (suc (length tables))),
      sorted-most (depth_of tables) f 0 (suc (length tables)) numbers,
      sum-places g (λ others k. g (table_at others k)) (λ x xs. refl) (λ x xs k. refl) tables f 0 (λ k. let e : 0 + k ≡ k = omega arith in ap f e),
    )
