-- How the gaps between the clauses of a region are closed, from the first on.
use Rattle.std.proofs.Common.{◌≡◌, ℕ, suc, ◌+◌, ◌-◌, ◌/◌, ◌%◌, ◌<◌, ◌≤◌, Bool, true, false, cond, nat_eq, List, [], ◌∷◌, ◌++◌, length, set, take, drop, slice_index, Option, Some, None, refl, sym, ap, subst, ◌∙◌, arith}
use Rattle.std.proofs.Math.Seq.{take-suc-set, drop-cons}
use Rattle.std.proofs.Math.ListN.{drop_of_length-le}
use Rattle.std.proofs.lemmas.List.{append_assoc, append-nil, take_all, drop-set-lt, length-set}
use Rattle.std.specs.List.{sum_by}
use Rattle.std.proofs.lemmas.List.Sums.{sum_by-append, sum_by-cons}
use Rattle.clause_store.specs.Stored.{place_words, stored_words}
use Rattle.clause_store.specs.Fields.{clause_from, clauses_from, clauses_of, IsRising, MovesDown}
use Rattle.clause_store.proofs.Runs.{clause-words, clauses-more, clauses-same, rising-more, rising-order, window-same}

-- The runs of the first places were moved, up to `end`. The others lie where they were, from `begin` on.
pub record IsMoved (words ends words' ends' : List ℕ) (place begin end : ℕ) : Type 0 where
  pub size : length words' ≡ length words
  pub count : length ends' ≡ length ends
  pub down : end ≤ begin
  pub done : IsRising 0 (take place ends') end
  pub left : IsRising begin (drop place ends') (length words')
  pub clauses : clauses_from words' 0 (take place ends') ++ clauses_from words' begin (drop place ends') ≡ clauses_of words ends
  pub stored : end ≡ stored_words (clauses_from words' 0 (take place ends'))

pub moved-none : (words ends : List ℕ) → IsRising 0 ends (length words) → IsMoved words ends words ends 0 0 0
moved-none words ends rising = record {
  size = refl;
  count = refl;
  down = omega arith;
  done = refl;
  left = rising;
  clauses = refl;
  stored = refl;
}

moved-by : (there : Bool) (words words' : List ℕ) (begin stop to : ℕ) → begin ≤ stop → stop ≤ length words → to ≤ begin
    → MovesDown words words' begin stop to (cond there (stop - begin) 0)
    → cond there (Some (take (to + cond there (stop - begin) 0 - to) (drop to words'))) None ≡ cond there (Some (take (stop - begin) (drop begin words))) None
moved-by true words words' begin stop to order within down moves =
    ap (λ size. Some (take size (drop to words'))) (omega arith)
    ∙ ap Some (window-same words words' begin to (stop - begin) (omega (arith, order, within)) (omega (arith, order, within, down, moves.length_is)) moves.moved)
moved-by false words words' begin stop to order within down moves = refl

-- a clause that was moved is the same
moved-clause : (words words' : List ℕ) (begin code to code' : ℕ) → begin ≤ code / 2 → code / 2 ≤ length words → to ≤ begin
    → MovesDown words words' begin (code / 2) to (cond (nat_eq (code % 2) 0) (code / 2 - begin) 0)
    → code' / 2 ≡ to + cond (nat_eq (code % 2) 0) (code / 2 - begin) 0 → code' % 2 ≡ code % 2 → clause_from words' to code' ≡ clause_from words begin code
moved-clause words words' begin code to code' order within down moves half bit =
    rw (half, bit) (moved-by (nat_eq (code % 2) 0) words words' begin (code / 2) to order within down moves)

pub sum-more : (f : Option (List ℕ) → ℕ) (clauses : List (Option (List ℕ))) (clause : Option (List ℕ)) → sum_by f (clauses ++ clause ∷ []) ≡ sum_by f clauses + f clause
sum-more f clauses clause = omega (arith, sum_by-append f clauses (clause ∷ []), sum_by-cons f clause [])

filled-most : (there : Bool) (size : ℕ) → cond there size 0 ≤ size
filled-most true size = omega arith
filled-most false size = omega arith

-- one run more is moved
pub moved-more : (words ends words' ends' words'' : List ℕ) (place begin end end' code' : ℕ) → IsMoved words ends words' ends' place begin end → place < length ends'
    → MovesDown words' words'' begin (slice_index ends' place / 2) end (cond (nat_eq (slice_index ends' place % 2) 0) (slice_index ends' place / 2 - begin) 0)
    → end' ≡ end + cond (nat_eq (slice_index ends' place % 2) 0) (slice_index ends' place / 2 - begin) 0
    → code' / 2 ≡ end' → code' % 2 ≡ slice_index ends' place % 2
    → IsMoved words ends words'' (set ends' place code') (suc place) (slice_index ends' place / 2) end'
moved-more words ends words' ends' words'' place begin end end' code' was within moves size half bit =
    let code = slice_index ends' place in
    let stop = code / 2 in
    let rest = drop (suc place) ends' in
    let done = take place ends' in
    let here : drop place ends' ≡ code ∷ rest = drop-cons ends' place 0 within in
    let left : IsRising begin (code ∷ rest) (length words') = subst (λ runs. IsRising begin runs (length words')) here was.left in
    let beyond : stop ≤ length words' = rising-order stop rest (length words') left.1 in
    let takes : take (suc place) (set ends' place code') ≡ done ++ code' ∷ [] = take-suc-set ends' place code' within in
    let drops : drop (suc place) (set ends' place code') ≡ rest = drop-set-lt (suc place) ends' place code' (omega arith) in
    let clause : clause_from words'' end code' ≡ clause_from words' begin code = moved-clause words' words'' begin code end code' left.0 beyond was.down moves (half ∙ size) bit in
    let before : clauses_from words'' 0 done ≡ clauses_from words' 0 done =
    clauses-same words' words'' 0 done end was.done (omega (arith, was.down, left.0, beyond)) (omega (arith, was.down, left.0, beyond, moves.length_is))
    (λ word low high. moves.below word high) in
    let behind : clauses_from words'' stop rest ≡ clauses_from words' stop rest =
    clauses-same words' words'' stop rest (length words') left.1 (omega arith) (omega (arith, moves.length_is)) (λ word low high. moves.beyond word low) in
    let more : clauses_from words'' 0 (done ++ code' ∷ []) ≡ clauses_from words' 0 done ++ clause_from words' begin code ∷ [] =
    clauses-more words'' 0 done end code' was.done ∙ rw (before, clause) refl in
    let filled : cond (nat_eq (code % 2) 0) (stop - begin) 0 ≤ stop - begin = filled-most (nat_eq (code % 2) 0) (stop - begin) in
    record {
      size = moves.length_is ∙ was.size;
      count = length-set ends' place code' ∙ was.count;
      down = omega (arith, size, filled, was.down, left.0);
      done = rw takes (subst (λ stop. IsRising 0 (done ++ code' ∷ []) stop) half (rising-more 0 done end code' was.done (omega (arith, half, size))));
      left = subst (λ runs. IsRising stop runs (length words'')) (sym drops) (subst (λ size. IsRising stop rest size) (sym moves.length_is) left.1);
      clauses = rw (takes, drops, more, behind) (append_assoc (clauses_from words' 0 done) (clause_from words' begin code ∷ []) (clauses_from words' stop rest)
          ∙ subst (λ runs. clauses_from words' 0 done ++ clauses_from words' begin runs ≡ clauses_of words ends) here was.clauses);
      stored = rw (takes, more) (omega (arith, size, was.stored, sum-more place_words (clauses_from words' 0 done) (clause_from words' begin code), clause-words words' begin code beyond));
    }

-- the next run lies within the region
pub moved-stop : {words ends words' ends' : List ℕ} {place begin end : ℕ} → IsMoved words ends words' ends' place begin end → place < length ends'
    → (begin ≤ slice_index ends' place / 2) × (slice_index ends' place / 2 ≤ length words')
moved-stop {words' = words'} {ends' = ends'} {place = place} {begin = begin} was within =
    let left : IsRising begin (slice_index ends' place ∷ drop (suc place) ends') (length words') =
    subst (λ runs. IsRising begin runs (length words')) (drop-cons ends' place 0 within) was.left in
    (left.0, rising-order (slice_index ends' place / 2) (drop (suc place) ends') (length words') left.1)

-- all runs were moved
pub record AreMoved (words ends words' ends' : List ℕ) (end : ℕ) : Type 0 where
  pub clauses : clauses_of words' ends' ≡ clauses_of words ends
  pub rising : IsRising 0 ends' end
  pub stored : end ≡ stored_words (clauses_of words ends)
  pub within : end ≤ length words'

pub moved-all : (words ends words' ends' : List ℕ) (place begin end : ℕ) → IsMoved words ends words' ends' place begin end → length ends' ≤ place
    → AreMoved words ends words' ends' end
moved-all words ends words' ends' place begin end was past =
    let takes : take place ends' ≡ ends' = take_all place ends' past in
    let drops : drop place ends' ≡ [] = drop_of_length-le ends' past in
    let left : IsRising begin [] (length words') = subst (λ runs. IsRising begin runs (length words')) drops was.left in
    let same : clauses_of words' ends' ≡ clauses_of words ends =
    sym (append-nil (clauses_of words' ends'))
    ∙ subst (λ runs. clauses_from words' 0 runs ++ [] ≡ clauses_of words ends) takes
    (subst (λ runs. clauses_from words' 0 (take place ends') ++ clauses_from words' begin runs ≡ clauses_of words ends) drops was.clauses) in
    record {
      clauses = same;
      rising = subst (λ runs. IsRising 0 runs end) takes was.done;
      stored = was.stored ∙ ap (λ runs. stored_words (clauses_from words' 0 runs)) takes ∙ ap stored_words same;
      within = omega (arith, was.down, left);
    }
