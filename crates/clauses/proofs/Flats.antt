-- Clauses that lie one behind another: where each begins, how many words they have, and what a push and a cut make of them.
use Rattle.std.proofs.Common.{◌≡◌, ℕ, zero, suc, ◌+◌, ◌-◌, ◌<◌, ◌≤◌, ℤ, List, [], ◌∷◌, ◌++◌, length, take, drop, Some, slice_get, get_or, refl, sym, ap, ◌∙◌, arith, length-drop, sub-one, ◌≢◌}
use Rattle.std.proofs.lemmas.List.Sums.{sum_by-cons}
use Rattle.std.proofs.lemmas.List.{take-append-le, drop-append-le, drop_at, take_all, length-take-le, take-take, drop-take}
use Rattle.clauses.specs.Literals.{clause_words}
use Rattle.clauses.specs.Flat.{lists_from, begin_of, EndsAt}

-- a list for each end
pub length_lists_from : (literals : List ℤ) (start : ℕ) (ends : List ℕ) → length (lists_from literals start ends) ≡ length ends
length_lists_from literals start [] = refl
length_lists_from literals start (end ∷ ends) = ap suc (length_lists_from literals end ends)

-- the start is within
pub start_within : (start : ℕ) (ends : List ℕ) (size : ℕ) → EndsAt start ends size → start ≤ size
start_within start [] size cut = omega arith
start_within start (end ∷ ends) size cut = omega (arith, start_within end ends size cut.1)

-- where a list begins, behind the first
pub begin_of-suc : (start : ℕ) (ends : List ℕ) (place : ℕ) → place < length ends → begin_of start ends (suc place) ≡ get_or ends place 0
begin_of-suc start [] place within = absurd (omega arith)
begin_of-suc start (end ∷ []) zero within = refl
begin_of-suc start (end ∷ (next ∷ ends)) zero within = refl
begin_of-suc start (end ∷ ends) (suc place) within = begin_of-suc end ends place (omega arith)

pub begin_of-zero : (start : ℕ) (ends : List ℕ) → begin_of start ends 0 ≡ start
begin_of-zero start [] = refl
begin_of-zero start (end ∷ ends) = refl

pub begin_of-behind : (start : ℕ) (ends : List ℕ) (place : ℕ) → place ≢ 0 → place ≤ length ends → begin_of start ends place ≡ get_or ends (place - 1) 0
begin_of-behind start ends zero some within = absurd (some refl)
begin_of-behind start ends (suc place) some within = rw sub-one (begin_of-suc start ends place (omega arith))

-- where a list begins and ends
pub begins_in_order : (start : ℕ) (ends : List ℕ) (size place : ℕ) → EndsAt start ends size → place < length ends →
    (begin_of start ends place ≤ begin_of start ends (suc place)) × (begin_of start ends (suc place) ≤ size)
begins_in_order start [] size place cut within = absurd (omega arith)
begins_in_order start (end ∷ []) size zero cut within = (cut.0, omega (arith, cut.1))
begins_in_order start (end ∷ (next ∷ ends)) size zero cut within = (cut.0, omega (arith, start_within end (next ∷ ends) size cut.1))
begins_in_order start (end ∷ ends) size (suc place) cut within = begins_in_order end ends size place cut.1 (omega arith)

-- the list at a place
pub slice_get-lists_from : (literals : List ℤ) (start : ℕ) (ends : List ℕ) (place : ℕ) → place < length ends →
    slice_get (lists_from literals start ends) place
    ≡ Some (take (begin_of start ends (suc place) - begin_of start ends place) (drop (begin_of start ends place) literals))
slice_get-lists_from literals start [] place within = absurd (omega arith)
slice_get-lists_from literals start (end ∷ []) zero within = refl
slice_get-lists_from literals start (end ∷ (next ∷ ends)) zero within = refl
slice_get-lists_from literals start (end ∷ ends) (suc place) within = slice_get-lists_from literals end ends place (omega arith)

-- the words of all lists
pub words_of_lists : (literals : List ℤ) (start : ℕ) (ends : List ℕ) → EndsAt start ends (length literals) →
    clause_words (lists_from literals start ends) + start ≡ length literals + length ends
words_of_lists literals start [] cut = omega (arith, cut)
words_of_lists literals start (end ∷ ends) cut =
    let within = start_within end ends (length literals) cut.1 in
    let size : length (take (end - start) (drop start literals)) ≡ end - start = length-take-le (end - start) (drop start literals) (omega (arith, length-drop start literals)) in
    omega (
      arith,
      sum_by-cons (λ (clause : List ℤ). length clause + 1) (take (end - start) (drop start literals)) (lists_from literals end ends),
      size,
      cut.0,
      words_of_lists literals end ends cut.1,
    )

-- a clause behind the others
pub lists_from-push : (literals clause : List ℤ) (start : ℕ) (ends : List ℕ) → EndsAt start ends (length literals) →
    lists_from (literals ++ clause) start (ends ++ (length literals + length clause) ∷ []) ≡ lists_from literals start ends ++ clause ∷ []
lists_from-push literals clause start [] cut =
    rw (drop_at literals clause start (sym cut))
    (ap (λ c. c ∷ []) (take_all (length literals + length clause - start) clause (omega (arith, cut))))
lists_from-push literals clause start (end ∷ ends) cut =
    let within = start_within end ends (length literals) cut.1 in
    rw (
      drop-append-le start literals clause (omega (arith, cut.0)),
      take-append-le (end - start) (drop start literals) clause (omega (arith, length-drop start literals)),
    ) (ap (λ cs. take (end - start) (drop start literals) ∷ cs) (lists_from-push literals clause end ends cut.1))

pub ends_push : (start : ℕ) (ends : List ℕ) (size more : ℕ) → EndsAt start ends size → EndsAt start (ends ++ (size + more) ∷ []) (size + more)
ends_push start [] size more cut = (omega (arith, cut), refl)
ends_push start (end ∷ ends) size more cut = (cut.0, ends_push end ends size more cut.1)

-- the first so many ends
pub ends_first : (start : ℕ) (ends : List ℕ) (size count : ℕ) → EndsAt start ends size → count ≤ length ends → EndsAt start (take count ends) (begin_of start ends count)
ends_first start [] size zero cut within = refl
ends_first start [] size (suc count) cut within = absurd (omega arith)
ends_first start (end ∷ ends) size zero cut within = refl
ends_first start (end ∷ ends) size (suc count) cut within = (cut.0, ends_first end ends size count cut.1 (omega arith))

-- a piece of the first so many is a piece of all
take_drop_front : (literals : List ℤ) (start end size : ℕ) → start ≤ end → end ≤ size → take (end - start) (drop start (take size literals)) ≡ take (end - start) (drop start literals)
take_drop_front literals start end size order within =
    let split : start + (size - start) ≡ size = omega arith in
    ap (λ n. take (end - start) (drop start (take n literals))) (sym split)
    ∙ ap (take (end - start)) (drop-take start (size - start) literals)
    ∙ take-take (end - start) (size - start) (drop start literals) (omega arith)

-- the first so many lists need only the literals up to where they end
pub lists_from-take : (literals : List ℤ) (start : ℕ) (ends : List ℕ) (count : ℕ) → EndsAt start ends (length literals) → count ≤ length ends →
    lists_from (take (begin_of start ends count) literals) start (take count ends) ≡ take count (lists_from literals start ends)
lists_from-take literals start [] zero cut within = refl
lists_from-take literals start [] (suc count) cut within = absurd (omega arith)
lists_from-take literals start (end ∷ ends) zero cut within = refl
lists_from-take literals start (end ∷ ends) (suc count) cut within =
    let low = start_within end (take count ends) (begin_of end ends count) (ends_first end ends (length literals) count cut.1 (omega arith)) in
    let first : take (end - start) (drop start (take (begin_of end ends count) literals)) ≡ take (end - start) (drop start literals) =
    rw (take_drop_front literals start end (begin_of end ends count) cut.0 low) in
    rw first (ap (λ cs. take (end - start) (drop start literals) ∷ cs) (lists_from-take literals end ends count cut.1 (omega arith)))

-- where a list begins is within
pub begin_within : (start : ℕ) (ends : List ℕ) (size count : ℕ) → EndsAt start ends size → count ≤ length ends → begin_of start ends count ≤ size
begin_within start [] size count cut within = omega (arith, cut)
begin_within start (end ∷ ends) size zero cut within = start_within start (end ∷ ends) size cut
begin_within start (end ∷ ends) size (suc count) cut within = begin_within end ends size count cut.1 (omega arith)
