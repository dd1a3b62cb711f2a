-- The rows that are taken fit just where others do not.
use Rattle.std.proofs.Common.{◌≡◌, ℕ, zero, suc, ◌+◌, ◌<◌, ◌≤◌, ◌==◌, Bool, true, false, not, ◌&&◌, ◌||◌, cond, List, [], ◌∷◌, ◌++◌, map, fold, refl, sym, ap, ◌∙◌, subst, arith, lit<, inl, inr}
use Rattle.std.specs.List.{flat_map, list_all, range_with_len}
use Rattle.std.proofs.lemmas.Bool.{and_parts, cases_Bool, cases_eq, eq-eqb, false≢true, ne_eqb}
use Rattle.std.proofs.lemmas.List.Folds.{list_any-append}
use Rattle.std.proofs.lemmas.List.Sums.{fold-append}
use Rattle.netlist.specs.declared.rows.Mark.{Mark}
use Rattle.netlist.specs.declared.rows.Mark.TheVariants as marks
use Rattle.netlist.specs.Valuations.{fits_row}
use Rattle.gates_theory.specs.Circuits.{same}
use Rattle.gates_theory.proofs.Literals.{not_not}
use Rattle.gates_theory.proofs.Parts.{same-is}
use Rattle.gates_nodes.specs.Nodes.{fits_some}
use Rattle.gates_covers.specs.Greedy.{all_rows, fits_one, is_taken, opposite, rows_asking, with_taken}
use Rattle.gates_covers.specs.Points.{AreOpposite, point_of}
use Rattle.gates_covers.proofs.Masks.{below-range, no-point, no-points}

-- the row that fits the vector of a number alone
abbrev mark_of : Bool → Mark
mark_of value = cond value marks.One marks.Zero

abbrev row_of : ℕ → List Mark
row_of number = map mark_of (point_of number)

pairs : Bool
pairs = list_all (λ i. list_all (λ k. same (fits_row (row_of i) (point_of k)) (i == k)) (range_with_len 0 16)) (range_with_len 0 16)

all-pairs : pairs ≡ true
unfolding pairs
all-pairs = refl

row-fits : (i k : ℕ) → i < 16 → k < 16 → fits_row (row_of i) (point_of k) ≡ (i == k)
unfolding pairs
row-fits i k below few =
    same-is (fits_row (row_of i) (point_of k)) (i == k)
    (below-range (λ k. same (fits_row (row_of i) (point_of k)) (i == k)) 16 k
    (below-range (λ i. list_all (λ k. same (fits_row (row_of i) (point_of k)) (i == k)) (range_with_len 0 16)) 16 i all-pairs below) few)

-- these rows come last
last-rows : all_rows ≡ flat_map rows_asking (range_with_len 0 4) ++ map row_of (range_with_len 0 16)
unfolding all_rows rows_asking
last-rows = refl

-- one row more
or-false : (b : Bool) → (b || false) ≡ b
or-false false = refl
or-false true = refl

or-true : (b : Bool) → (b || true) ≡ true
or-true false = refl
or-true true = refl

pub some-push : (others : List (List Mark)) (row : List Mark) (values : List Bool) → fits_some (others ++ row ∷ []) values ≡ (fits_some others values || fits_row row values)
some-push others row values = list_any-append (λ r. fits_row r values) others (row ∷ []) ∙ ap (λ t. fits_some others values || t) (or-false (fits_row row values))

-- what is fitted stays so
stay-one : (taken : Bool) (others : List (List Mark)) (row : List Mark) (p : List Bool) → fits_some others p ≡ true → fits_some (cond taken (others ++ row ∷ []) others) p ≡ true
stay-one true others row p is = some-push others row p ∙ ap (λ b. b || fits_row row p) is
stay-one false others row p is = is

stay : (rows others candidates : List (List Mark)) (p : List Bool) → fits_some others p ≡ true → fits_some (fold (with_taken rows) others candidates) p ≡ true
stay rows others [] p is = is
stay rows others (row ∷ candidates) p is = stay rows (with_taken rows others row) candidates p (stay-one (is_taken rows others row) others row p is)

-- no vector is fitted that rows fit
abbrev AreApart : List (List Mark) → List (List Mark) → Type 0
AreApart rows others = (k : ℕ) → k < 16 → fits_some others (point_of k) ≡ true → fits_some rows (point_of k) ≡ false

apart-one : (rows others : List (List Mark)) (row : List Mark) → AreApart rows others → AreApart rows (with_taken rows others row)
unfolding fits_one
apart-one rows others row before = elim (cases_Bool (is_taken rows others row)) [
  | inl taken ↦ rw taken (λ k below fits. elim (cases_Bool (fits_some others (point_of k))) [
    | inl old ↦ before k below old
    | inr new ↦
        let here : fits_row row (point_of k) ≡ true = sym (some-push others row (point_of k) ∙ ap (λ b. b || fits_row row (point_of k)) new) ∙ fits in
        let none : fits_one (fits_some rows) row ≡ false =
        sym (not_not (fits_one (fits_some rows) row)) ∙ ap not (and_parts (not (fits_one (fits_some rows) row)) (fits_one (λ p. not (fits_some others p)) row) taken).0 in
        ap (λ b. b && fits_some rows (point_of k)) (sym here) ∙ no-point (λ p. fits_row row p && fits_some rows p) k below none
  ])
  | inr kept ↦ rw kept before
]

apart : (rows others candidates : List (List Mark)) → AreApart rows others → AreApart rows (fold (with_taken rows) others candidates)
apart rows others [] before = before
apart rows others (row ∷ candidates) before = apart rows (with_taken rows others row) candidates (apart-one rows others row before)

-- the row of a vector that no row fits is taken, unless the vector is fitted already
own-apart : (rows : List (List Mark)) (i : ℕ) → i < 16 → fits_some rows (point_of i) ≡ false → fits_one (fits_some rows) (row_of i) ≡ false
unfolding fits_one
own-apart rows i below unfit = no-points (λ p. fits_row (row_of i) p && fits_some rows p) (λ k few. rw (row-fits i k below few) (elim (cases_eq i k) [
  | inl e ↦ rw (eq-eqb i k e) (ap (λ j. fits_some rows (point_of j)) (sym e) ∙ unfit)
  | inr differs ↦ rw (ne_eqb i k differs) refl
]))

own-one : (rows others : List (List Mark)) (i : ℕ) → i < 16 → fits_some rows (point_of i) ≡ false → fits_some (with_taken rows others (row_of i)) (point_of i) ≡ true
unfolding fits_one
own-one rows others i below unfit =
    let own : fits_row (row_of i) (point_of i) ≡ true = row-fits i i below below ∙ eq-eqb i i refl in
    elim (cases_Bool (is_taken rows others (row_of i))) [
      | inl taken ↦ rw taken (some-push others (row_of i) (point_of i) ∙ ap (λ b. fits_some others (point_of i) || b) own ∙ or-true (fits_some others (point_of i)))
      | inr kept ↦
          let old : fits_one (λ p. not (fits_some others p)) (row_of i) ≡ false =
          ap (λ b. not b && fits_one (λ p. not (fits_some others p)) (row_of i)) (sym (own-apart rows i below unfit)) ∙ kept in
          rw kept (sym (not_not (fits_some others (point_of i)))
          ∙ ap not (ap (λ b. b && not (fits_some others (point_of i))) (sym own) ∙ no-point (λ p. fits_row (row_of i) p && not (fits_some others p)) i below old))
    ]

own : (rows others : List (List Mark)) (first count i : ℕ) → first + count ≤ 16 → i < count → fits_some rows (point_of (first + i)) ≡ false →
    fits_some (fold (with_taken rows) others (map row_of (range_with_len first count))) (point_of (first + i)) ≡ true
own rows others first zero i within below unfit = absurd (omega arith)
own rows others first (suc count) zero within below unfit =
    let e : first + 0 ≡ first = omega arith in
    rw e (stay rows (with_taken rows others (row_of first)) (map row_of (range_with_len (first + 1) count)) (point_of first) (own-one rows others first (omega arith) (rw e at unfit)))
own rows others first (suc count) (suc i) within below unfit =
    let e : first + suc i ≡ first + 1 + i = omega arith in
    rw e (own rows (with_taken rows others (row_of first)) (first + 1) count i (omega arith) (omega arith) (rw e at unfit))

all-fitted : (rows : List (List Mark)) (k : ℕ) → k < 16 → fits_some rows (point_of k) ≡ false → fits_some (opposite rows) (point_of k) ≡ true
unfolding opposite
all-fitted rows k below unfit =
    let wide = flat_map rows_asking (range_with_len 0 4) in
    let single = map row_of (range_with_len 0 16) in
    let parts : fold (with_taken rows) [] all_rows ≡ fold (with_taken rows) (fold (with_taken rows) [] wide) single = ap (fold (with_taken rows) []) last-rows ∙ fold-append (with_taken rows) [] wide single in
    let e : 0 + k ≡ k = omega arith in
    ap (λ others. fits_some others (point_of k)) parts
    ∙ subst (λ j. fits_some rows (point_of j) ≡ false → fits_some (fold (with_taken rows) (fold (with_taken rows) [] wide) single) (point_of j) ≡ true) e
    (own rows (fold (with_taken rows) [] wide) 0 16 k (omega arith) below) unfit

all-apart : (rows : List (List Mark)) → AreApart rows (opposite rows)
unfolding opposite
all-apart rows = apart rows [] all_rows (λ k below fits. absurd (false≢true fits))

-- what holds at each number holds at each vector
each-point : (rows others : List (List Mark)) → ((k : ℕ) → k < 16 → fits_some rows (point_of k) ≡ not (fits_some others (point_of k))) → AreOpposite rows others
each-point rows others each = record { one_side = at }
  where
    at : (a b c d : Bool) → fits_some rows (a ∷ b ∷ c ∷ d ∷ []) ≡ not (fits_some others (a ∷ b ∷ c ∷ d ∷ []))
    at false false false false = each 0 (lit< tt)
    at false false false true = each 1 (lit< tt)
    at false false true false = each 2 (lit< tt)
    at false false true true = each 3 (lit< tt)
    at false true false false = each 4 (lit< tt)
    at false true false true = each 5 (lit< tt)
    at false true true false = each 6 (lit< tt)
    at false true true true = each 7 (lit< tt)
    at true false false false = each 8 (lit< tt)
    at true false false true = each 9 (lit< tt)
    at true false true false = each 10 (lit< tt)
    at true false true true = each 11 (lit< tt)
    at true true false false = each 12 (lit< tt)
    at true true false true = each 13 (lit< tt)
    at true true true false = each 14 (lit< tt)
    at true true true true = each 15 (lit< tt)

pub are-opposite : (rows : List (List Mark)) → AreOpposite rows (opposite rows)
are-opposite rows = each-point rows (opposite rows) (λ k below. elim (cases_Bool (fits_some rows (point_of k))) [
  | inl fits ↦
      elim (cases_Bool (fits_some (opposite rows) (point_of k))) [
        | inl both ↦ absurd (false≢true (sym (all-apart rows k below both) ∙ fits))
        | inr none ↦ fits ∙ sym (ap not none)
      ]
  | inr unfit ↦ unfit ∙ sym (ap not (all-fitted rows k below unfit))
])

pub opposite-back : (rows others : List (List Mark)) → AreOpposite rows others → AreOpposite others rows
opposite-back rows others are = record {
  one_side = λ a b c d. sym (not_not (fits_some others (a ∷ b ∷ c ∷ d ∷ []))) ∙ ap not (sym (are.one_side a b c d));
}
