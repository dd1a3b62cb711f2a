-- What is read of a slice of truth values.
use Rattle.std.proofs.Common.{◌≡◌, ℕ, ◌+◌, ◌≤◌, Bool, true, false, cond, List, [], ◌∷◌, ◌++◌, length, take, drop, get_or, sym, ap, ◌∙◌, arith}
use Rattle.std.specs.Prelude.{filter, count_by}
use Rattle.std.specs.List.{range_with_len}
use Rattle.std.proofs.lemmas.List.{get_or-take, get_or-drop, length-drop, length-take, map-id, append-nil}
use Rattle.std.proofs.lemmas.List.Elements.{filter-append}
use Rattle.std.proofs.lemmas.List.FromFn.{fill_by_all, map-range_with_len_more}
use Rattle.std.proofs.lemmas.List.Sums.{sum_by_push}
use Rattle.joint.specs.Slices.{bits_from, numbers_from, count_from}

pub bits-read : (values : List Bool) (start count size : ℕ) → size ≡ count → start + count ≤ length values → take size (drop start values) ≡ bits_from values start count
bits-read values start count size same fits =
    fill_by_all (λ number. get_or values (start + number) false) (take size (drop start values)) count false
    (omega (arith, length-take size (drop start values), length-drop start values))
    (λ k below. get_or-take size (drop start values) k false (omega arith) ∙ get_or-drop start values k false)

range-more : (count : ℕ) → range_with_len 0 (count + 1) ≡ range_with_len 0 count ++ count ∷ []
range-more count =
    sym (map-id (range_with_len 0 (count + 1))) ∙ map-range_with_len_more (λ (k : ℕ). k) 0 count count (omega arith) ∙ ap (λ front. front ++ count ∷ []) (map-id (range_with_len 0 count))

abbrev pub at : List Bool → ℕ → ℕ → Bool
at values start number = get_or values (start + number) false

numbers-more : (values : List Bool) (start count : ℕ) → numbers_from values start (count + 1) ≡ numbers_from values start count ++ filter (at values start) (count ∷ [])
numbers-more values start count =
    ap (filter (at values start)) (range-more count) ∙ filter-append (at values start) (range_with_len 0 count) (count ∷ [])

filter_one : (p : ℕ → Bool) (number : ℕ) (b : Bool) → p number ≡ b → filter p (number ∷ []) ≡ cond b (number ∷ []) []
filter_one p number b e = ap (λ t. cond t (number ∷ []) []) e

pub numbers-with : (values : List Bool) (start count : ℕ) → at values start count ≡ true → numbers_from values start (count + 1) ≡ numbers_from values start count ++ count ∷ []
numbers-with values start count is = numbers-more values start count ∙ ap (λ back. numbers_from values start count ++ back) (filter_one (at values start) count true is)

pub numbers-without : (values : List Bool) (start count : ℕ) → at values start count ≡ false → numbers_from values start (count + 1) ≡ numbers_from values start count
numbers-without values start count is =
    numbers-more values start count ∙ ap (λ back. numbers_from values start count ++ back) (filter_one (at values start) count false is) ∙ append-nil (numbers_from values start count)

count-more : (values : List Bool) (start count : ℕ) (b : Bool) → at values start count ≡ b → count_from values start (count + 1) ≡ count_from values start count + cond b 1 0
count-more values start count b is =
    ap (count_by (at values start)) (range-more count)
    ∙ sum_by_push (λ number. cond (at values start number) 1 0) (range_with_len 0 count) count
    ∙ ap (λ t. count_from values start count + cond t 1 0) is

pub count-with : (values : List Bool) (start count : ℕ) → at values start count ≡ true → count_from values start (count + 1) ≡ count_from values start count + 1
count-with values start count is = count-more values start count true is

pub count-without : (values : List Bool) (start count : ℕ) → at values start count ≡ false → count_from values start (count + 1) ≡ count_from values start count
count-without values start count is = count-more values start count false is ∙ omega arith
