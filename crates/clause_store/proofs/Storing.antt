-- What a clause more and a clause less make of a store.
use Rattle.std.proofs.Common.{◌≡◌, ℕ, zero, suc, ◌+◌, ◌-◌, ◌*◌, ◌/◌, ◌%◌, ◌<◌, ◌≤◌, cond, nat_eq, List, [], ◌∷◌, ◌++◌, length, set, get_or, take, drop, slice_index, Option, Some, None, IsSome, is_some, refl, ap, subst, ◌∙◌, arith}
use Rattle.std.proofs.Math.ListN.{get_or-append}
use Rattle.std.proofs.Math.Seq.{drop-append_seam, take-length}
use Rattle.std.proofs.lemmas.List.{length-append, get_or_past}
use Rattle.std.proofs.lemmas.List.Sums.{sum_by-set}
use Rattle.clause_store.specs.Stored.{place_words, stored_words, live_clauses}
use Rattle.clause_store.specs.Fields.{begin_at, clause_from, clauses_of, IsRising}
use Rattle.clause_store.proofs.Gaps.{sum-more}
use Rattle.clause_store.proofs.Runs.{length-clauses, get-clauses, Lies, lies, clause-words, clauses-same, clauses-more, rising-more, clauses-out, rising-out}

abbrev as_number : Option (List ℕ) → ℕ
as_number clause = cond (is_some clause) 1 0

-- a region and its runs, and how many words and clauses it has
pub record Holds (words ends : List ℕ) (used live : ℕ) : Type 0 where
  pub rising : IsRising 0 ends (length words)
  pub used_is : used ≡ stored_words (clauses_of words ends)
  pub live_is : live ≡ live_clauses (clauses_of words ends)

-- a clause behind the others
pub clauses-push : (words ends more : List ℕ) → IsRising 0 ends (length words)
    → clauses_of (words ++ more) (ends ++ 2 * length (words ++ more) ∷ []) ≡ clauses_of words ends ++ Some more ∷ []
clauses-push words ends more rising =
    let code = 2 * length (words ++ more) in
    let long : length (words ++ more) ≡ length words + length more = length-append words more in
    let half : code / 2 ≡ length words + length more = omega (arith, long) in
    let even : code % 2 ≡ 0 = omega arith in
    let same : clauses_of (words ++ more) ends ≡ clauses_of words ends =
    clauses-same words (words ++ more) 0 ends (length words) rising (omega arith) (omega (arith, long)) (λ place low high. get_or-append words more 0 place high) in
    let size : code / 2 - length words ≡ length more = omega (arith, half) in
    let last : clause_from (words ++ more) (length words) code ≡ Some more =
    rw (even, size, drop-append_seam words more) (ap Some (take-length more)) in
    clauses-more (words ++ more) 0 ends (length words) code rising ∙ rw (same, last) refl

pub holds-push : (words ends more : List ℕ) (used live : ℕ) → Holds words ends used live
    → Holds (words ++ more) (ends ++ 2 * length (words ++ more) ∷ []) (used + length more) (live + 1)
holds-push words ends more used live holds =
    let code = 2 * length (words ++ more) in
    let half : code / 2 ≡ length (words ++ more) = omega arith in
    let order : length words ≤ code / 2 = omega (arith, half, length-append words more) in
    let pushed = clauses-push words ends more holds.rising in
    record {
      rising = subst (λ stop. IsRising 0 (ends ++ code ∷ []) stop) half (rising-more 0 ends (length words) code holds.rising order);
      used_is = rw pushed (omega (arith, holds.used_is, sum-more place_words (clauses_of words ends) (Some more)));
      live_is = rw pushed (omega (arith, holds.live_is, sum-more as_number (clauses_of words ends) (Some more)));
    }

-- a place with a clause is within
some_within : {X : Type 0} (xs : List (Option X)) (place : ℕ) → IsSome (get_or xs place None) → place < length xs
some_within [] place some = cc
some_within (x ∷ xs) zero some = omega arith
some_within (x ∷ xs) (suc place) some = let rest = some_within xs place some in omega arith

pub clause_within : (words ends : List ℕ) (place : ℕ) → IsSome (get_or (clauses_of words ends) place None) → place < length ends
clause_within words ends place some = omega (arith, some_within (clauses_of words ends) place some, length-clauses words 0 ends)

even-by : (bit : ℕ) (words : List ℕ) → bit < 2 → IsSome (cond (nat_eq bit 0) (Some words) None) → bit ≡ 0
even-by zero words small some = refl
even-by (suc zero) words small some = cc
even-by (suc (suc bit)) words small some = absurd (omega (arith, small))

-- what is known of a place with a clause
pub record Stands (words ends : List ℕ) (place : ℕ) : Type 0 where
  pub within : place < length ends
  pub even : slice_index ends place % 2 ≡ 0
  pub lies : Lies (begin_at 0 ends place) (slice_index ends place) (length words)

pub stands : (words ends : List ℕ) (place : ℕ) → IsRising 0 ends (length words) → IsSome (get_or (clauses_of words ends) place None) → Stands words ends place
stands words ends place rising some =
    let within : place < length ends = clause_within words ends place some in
    let code = slice_index ends place in
    let there : IsSome (clause_from words (begin_at 0 ends place) code) = rw (← get-clauses words 0 ends place within) some in
    record {
      within = within;
      even = even-by (code % 2) (take (code / 2 - begin_at 0 ends place) (drop (begin_at 0 ends place) words)) (omega arith) there;
      lies = lies 0 ends (length words) place rising within;
    }

live_one : (clause : Option (List ℕ)) → IsSome clause → as_number clause ≡ 1
live_one None some = cc
live_one (Some words) some = refl

-- what the mark of a clause that is taken out does
pub record Removes (words ends : List ℕ) (used live place : ℕ) : Type 0 where
  pub size : slice_index ends place / 2 - begin_at 0 ends place ≤ used
  pub one : 1 ≤ live
  pub clauses : clauses_of words (set ends place (slice_index ends place + 1)) ≡ set (clauses_of words ends) place None
  pub holds : Holds words (set ends place (slice_index ends place + 1)) (used - (slice_index ends place / 2 - begin_at 0 ends place)) (live - 1)

pub removes : (words ends : List ℕ) (used live place : ℕ) → Holds words ends used live → IsSome (get_or (clauses_of words ends) place None)
    → Removes words ends used live place
removes words ends used live place holds some =
    let at = stands words ends place holds.rising some in
    let code = slice_index ends place in
    let out = clauses-out words 0 ends place at.within at.even in
    let inside : place < length (clauses_of words ends) = omega (arith, at.within, length-clauses words 0 ends) in
    let here : get_or (clauses_of words ends) place None ≡ clause_from words (begin_at 0 ends place) code = get-clauses words 0 ends place at.within in
    let size : place_words (clause_from words (begin_at 0 ends place) code) ≡ code / 2 - begin_at 0 ends place =
    clause-words words (begin_at 0 ends place) code at.lies.within ∙ rw at.even refl in
    let one : as_number (get_or (clauses_of words ends) place None) ≡ 1 = live_one (get_or (clauses_of words ends) place None) some in
    let words_set = sum_by-set place_words (clauses_of words ends) place None None inside in
    let live_set = sum_by-set as_number (clauses_of words ends) place None None inside in
    record {
      size = omega (arith, holds.used_is, size, ap place_words here, words_set);
      one = omega (arith, holds.live_is, one, live_set);
      clauses = out;
      holds = record {
        rising = rising-out 0 ends (length words) place at.within at.even holds.rising;
        used_is = rw out (omega (arith, holds.used_is, size, ap place_words here, words_set));
        live_is = rw out (omega (arith, holds.live_is, one, live_set));
      };
    }

-- the clause of a place, by its code
pub clause-past : (words ends : List ℕ) (place : ℕ) → length ends ≤ place → get_or (clauses_of words ends) place None ≡ None
clause-past words ends place past = get_or_past (clauses_of words ends) place None (omega (arith, past, length-clauses words 0 ends))

pub clause-out : (words ends : List ℕ) (place : ℕ) → place < length ends → slice_index ends place % 2 ≡ 1 → get_or (clauses_of words ends) place None ≡ None
clause-out words ends place within odd = get-clauses words 0 ends place within ∙ rw odd refl

pub clause-there : (words ends : List ℕ) (place : ℕ) → place < length ends → slice_index ends place % 2 ≡ 0
    → get_or (clauses_of words ends) place None ≡ Some (take (slice_index ends place / 2 - begin_at 0 ends place) (drop (begin_at 0 ends place) words))
clause-there words ends place within even = get-clauses words 0 ends place within ∙ rw even refl
