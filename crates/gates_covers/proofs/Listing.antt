-- All rows of four marks, one behind another.
use Rattle.std.proofs.Common.{◌≡◌, ℕ, ◌+◌, ◌==◌, true, cond, List, [], ◌∷◌, ◌++◌, map, length, get_or, refl, sym, ap, ◌∙◌, arith, append_assoc, inl, inr, count_by, All}
use Rattle.std.specs.List.{filter, flat_map, list_all, range_with_len}
use Rattle.std.proofs.lemmas.Bool.{cases_Bool, eq-eqb, eqb-true, false≢true, ne_eqb}
use Rattle.std.proofs.lemmas.Grind.{flat_map-append}
use Rattle.std.proofs.lemmas.List.{append-nil}
use Rattle.std.proofs.lemmas.List.Folds.{list_all_at}
use Rattle.std.proofs.lemmas.List.FromFn.{filter_of_map_range_with_len_more, map-range_with_len_more}
use Rattle.netlist.specs.declared.rows.Mark.{Mark}
use Rattle.gates_covers.specs.Greedy.{all_rows, asks, row_at, rows_asking}

abbrev pub so_far : ℕ → ℕ → List (List Mark)
so_far count number = filter (λ row. count_by asks row == count) (map row_at (range_with_len 0 number))

next : (count number : ℕ) → so_far count (number + 1) ≡ so_far count number ++ cond (count_by asks (row_at number) == count) (row_at number ∷ []) []
next count number = filter_of_map_range_with_len_more (λ row. count_by asks row == count) row_at 0 number number (omega arith)

pub one-asks : (old now : List (List Mark)) (row : List Mark) (count number asked : ℕ) → now ≡ old ++ so_far count number → row ≡ row_at number → asked ≡ count_by asks row → asked ≡ count →
    now ++ row ∷ [] ≡ old ++ so_far count (number + 1)
one-asks old now row count number asked before is has same =
    let passes : (count_by asks (row_at number) == count) ≡ true = eq-eqb (count_by asks (row_at number)) count (ap (count_by asks) (sym is) ∙ sym has ∙ same) in
    ap (λ r. now ++ r ∷ []) is ∙ ap (λ n. n ++ row_at number ∷ []) before ∙ append_assoc old (so_far count number) (row_at number ∷ [])
    ∙ ap (λ n. old ++ n) (sym (next count number ∙ ap (λ b. so_far count number ++ cond b (row_at number ∷ []) []) passes))

pub none-asks : (old now : List (List Mark)) (row : List Mark) (count number asked : ℕ) → now ≡ old ++ so_far count number → row ≡ row_at number → asked ≡ count_by asks row → (asked ≡ count → ⊥) →
    now ≡ old ++ so_far count (number + 1)
none-asks old now row count number asked before is has differs =
    let fails = ne_eqb (count_by asks (row_at number)) count (λ same. differs (has ∙ ap (count_by asks) is ∙ same)) in
    before ∙ ap (λ n. old ++ n) (sym (next count number ∙ ap (λ b. so_far count number ++ cond b (row_at number ∷ []) []) fails ∙ append-nil (so_far count number)))

pub all-asking : (count : ℕ) → so_far count 81 ≡ rows_asking count
unfolding rows_asking
all-asking count = refl

pub more-rows : (now : List (List Mark)) (count : ℕ) → now ≡ flat_map rows_asking (range_with_len 0 count) → now ++ rows_asking count ≡ flat_map rows_asking (range_with_len 0 (count + 1))
more-rows now count before =
    let more : range_with_len 0 (count + 1) ≡ range_with_len 0 count ++ count ∷ [] =
    sym (map-id (range_with_len 0 (count + 1))) ∙ map-range_with_len_more (λ n. n) 0 count count (omega arith) ∙ ap (λ l. l ++ count ∷ []) (map-id (range_with_len 0 count)) in
    ap (λ n. n ++ rows_asking count) before
    ∙ sym (ap (flat_map rows_asking) more ∙ flat_map-append rows_asking (range_with_len 0 count) (count ∷ []) ∙ ap (λ l. flat_map rows_asking (range_with_len 0 count) ++ l) (append-nil (rows_asking count)))
  where
    map-id : (l : List ℕ) → map (λ n. n) l ≡ l
    map-id [] = refl
    map-id (x ∷ l) = ap (λ r. x ∷ r) (map-id l)

pub all-rows : flat_map rows_asking (range_with_len 0 5) ≡ all_rows
unfolding all_rows
all-rows = refl

-- each has four marks
all-four : list_all (λ row. length row == 4) all_rows ≡ true
unfolding all_rows rows_asking
all-four = refl

at-four : (rows : List (List Mark)) → list_all (λ row. length row == 4) rows ≡ true → All (λ row. length row ≡ 4) rows
at-four rows all k d lt = elim (cases_Bool (length (get_or rows k d) == 4)) [
  | inl four ↦ eqb-true (length (get_or rows k d)) 4 four
  | inr other ↦ absurd (false≢true (sym (list_all_at (λ row. length row == 4) rows k d lt other) ∙ all))
]

pub four-marks : All (λ row. length row ≡ 4) all_rows
four-marks = at-four all_rows all-four
