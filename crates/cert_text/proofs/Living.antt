-- How many lemmas are live behind the entries of a log.
use Rattle.std.proofs.Common.{◌≡◌, ◌∙◌, ap, subst, ℕ, zero, suc, ◌+◌, ◌-◌, ◌<◌, ◌≤◌, max, ℤ, Bool, true, false, cond, leb, List, [], ◌∷◌, ◌++◌, length, take, drop, set, get_or, Option, Some, None, is_some, IsSome, inl, inr, refl, arith, append_assoc}
use Rattle.std.specs.List.{count_by}
use Rattle.std.proofs.lemmas.Bool.{cases_lt, cond_both, leb-true}
use Rattle.std.proofs.lemmas.List.{append-nil, drop-append-le, drop_all, length-map, length-set, length_push}
use Rattle.std.proofs.lemmas.List.Sums.{count_by-le-length, sum_by-cons, sum_by-set, sum_by_push}
use Rattle.clauses.specs.Live.{Numbered, all_live, clause_of, without}
use Rattle.clauses.specs.Logs.{LogEntry, after_all, clauses_after, is_lemma, lemmas}
use Rattle.clauses.specs.Logs.LogEntry.{Lemma, Forget}
use Rattle.clauses.proofs.Lives.{after_all-push}
use Rattle.cert_theory.specs.Printed.{held_after, most_from, most_live}
use Rattle.cert_theory.specs.Sections.{NamesLive, Query, live_lemmas}
use Rattle.cert_text.specs.Evidence.{DropsLive, EachDrop, IsMostLive}
use Rattle.cert_text.proofs.Counting.{at_least}

abbrev as_number : Bool → ℕ
as_number b = cond b 1 0

-- how many clauses are numbered
length_without : (kept number : ℕ) (clauses : Numbered ℤ) → length (without kept number clauses) ≡ length clauses
length_without kept number clauses =
    cond_both (leb number kept) clauses (set clauses (number - 1) None) (λ cs. length cs ≡ length clauses) (λ _. refl) (λ _. length-set clauses (number - 1) None)

pub length_after : (size : ℕ) (clauses : Numbered ℤ) (log : List LogEntry) → length (after_all size clauses log) ≡ length clauses + lemmas log
length_after size clauses [] = omega arith
length_after size clauses (Lemma literals hints ∷ log) =
    omega (arith, length_after size (clauses ++ Some literals ∷ []) log, length_push clauses (Some literals), sum_by-cons (λ entry. as_number (is_lemma entry)) (Lemma literals hints) log)
length_after size clauses (Forget number ∷ log) =
    omega (arith, length_after size (without size number clauses) log, length_without size number clauses, sum_by-cons (λ entry. as_number (is_lemma entry)) (Forget number) log)

pub numbered_after : (formula : List (List ℤ)) (log : List LogEntry) → length (clauses_after formula log) ≡ length formula + lemmas log
numbered_after formula log = omega (arith, length_after (length formula) (all_live formula) log, length-map formula (λ clause. Some clause))

-- none is live at first, and with a lemma there is one more
pub live_none : (query : Query) → live_lemmas query [] ≡ 0
live_none query =
    ap (λ (clauses : Numbered ℤ). count_by (λ clause. is_some clause) clauses)
    (drop_all (length query.clauses) (all_live query.clauses) (omega (arith, length-map query.clauses (λ clause. Some clause))))

pub live_push : (query : Query) (log : List LogEntry) (literals : List ℤ) (hints : List ℕ)
    → live_lemmas query (log ++ Lemma literals hints ∷ []) ≡ live_lemmas query log + 1
live_push query log literals hints =
    let size = length query.clauses in
    let clauses = clauses_after query.clauses log in
    let all : clauses_after query.clauses (log ++ Lemma literals hints ∷ []) ≡ clauses ++ Some literals ∷ [] =
    after_all-push size (all_live query.clauses) log (Lemma literals hints) in
    rw (all, drop-append-le size clauses (Some literals ∷ []) (omega (arith, numbered_after query.clauses log)))
    (sum_by_push (λ clause. as_number (is_some clause)) (drop size clauses) (Some literals))

-- no more are live than there are
pub live_few : (query : Query) (log : List LogEntry) → live_lemmas query log ≤ lemmas log
live_few query log =
    let size = length query.clauses in
    let clauses = clauses_after query.clauses log in
    omega (arith, count_by-le-length (λ clause. is_some clause) (drop size clauses), length_rest size clauses, numbered_after query.clauses log)
  where
    length_rest : (count : ℕ) (clauses : Numbered ℤ) → length (drop count clauses) ≡ length clauses - count
    length_rest zero clauses = omega arith
    length_rest (suc count) [] = omega arith
    length_rest (suc count) (clause ∷ clauses) = omega (arith, length_rest count clauses)

-- a lemma that is dropped
some_within : {X : Type 0} (xs : List (Option X)) (place : ℕ) → IsSome (get_or xs place None) → place < length xs
some_within [] place some = cc
some_within (x ∷ xs) zero some = omega arith
some_within (x ∷ xs) (suc place) some = let rest = some_within xs place some in omega arith

count_one : (clauses : Numbered ℤ) (place : ℕ) → IsSome (get_or clauses place None)
    → count_by (λ clause. is_some clause) (set clauses place None) + 1 ≡ count_by (λ clause. is_some clause) clauses
count_one clauses place some =
    let within = some_within clauses place some in
    let one : as_number (is_some (get_or clauses place None)) ≡ 1 = is_one (get_or clauses place None) some in
    omega (arith, sum_by-set (λ (clause : Option (List ℤ)). as_number (is_some clause)) clauses place None None within, one)
  where
    is_one : (clause : Option (List ℤ)) → IsSome clause → as_number (is_some clause) ≡ 1
    is_one None some = cc
    is_one (Some clause) some = refl

drop_set : {X : Type 0} (count place : ℕ) (xs : List X) (y : X) → count ≤ place → drop count (set xs place y) ≡ set (drop count xs) (place - count) y
drop_set zero place xs y order = let same : place - 0 ≡ place = omega arith in rw same refl
drop_set (suc count) zero xs y order = absurd (omega arith)
drop_set (suc count) (suc place) [] y order = refl
drop_set (suc count) (suc place) (x ∷ xs) y order =
    let same : suc place - suc count ≡ place - count = omega arith in
    rw same (drop_set count place xs y (omega arith))

drop_at : {X : Type 0} (count place : ℕ) (xs : List X) (d : X) → count ≤ place → get_or (drop count xs) (place - count) d ≡ get_or xs place d
drop_at zero place xs d order = let same : place - 0 ≡ place = omega arith in rw same refl
drop_at (suc count) zero xs d order = absurd (omega arith)
drop_at (suc count) (suc place) [] d order = refl
drop_at (suc count) (suc place) (x ∷ xs) d order =
    let same : suc place - suc count ≡ place - count = omega arith in
    rw same (drop_at count place xs d (omega arith))

without_is : (size number : ℕ) (clauses : Numbered ℤ) → size < number → without size number clauses ≡ set clauses (number - 1) None
without_is size number clauses past = by (leb number size) refl
  where
    by : (kept : Bool) → leb number size ≡ kept → cond kept clauses (set clauses (number - 1) None) ≡ set clauses (number - 1) None
    by true is = let low = leb-true number size is in absurd (omega arith)
    by false is = refl

number_at : (clauses : Numbered ℤ) (number : ℕ) → 0 < number → clause_of clauses number ≡ get_or clauses (number - 1) None
number_at clauses zero some = absurd (omega arith)
number_at clauses (suc place) some = let same : suc place - 1 ≡ place = omega arith in rw same refl

pub live_drop : (query : Query) (log : List LogEntry) (number : ℕ) → NamesLive query log number
    → live_lemmas query (log ++ Forget number ∷ []) + 1 ≡ live_lemmas query log
live_drop query log number live =
    let size = length query.clauses in
    let clauses = clauses_after query.clauses log in
    let order : size ≤ number - 1 = omega (arith, live.0) in
    let there : IsSome (get_or clauses (number - 1) None) = rw (number_at clauses number (omega (arith, live.0))) at live.1 in
    let here : IsSome (get_or (drop size clauses) (number - 1 - size) None) = rw (drop_at size (number - 1) clauses None order) there in
    let all : clauses_after query.clauses (log ++ Forget number ∷ []) ≡ set clauses (number - 1) None =
    after_all-push size (all_live query.clauses) log (Forget number) ∙ without_is size number clauses live.0 in
    rw (all, drop_set size (number - 1) clauses None order) (count_one (drop size clauses) (number - 1 - size) here)

-- so the count of live lemmas goes with the entries
held_lemma : (query : Query) (log : List LogEntry) (literals : List ℤ) (hints : List ℕ)
    → live_lemmas query (log ++ Lemma literals hints ∷ []) ≡ held_after (live_lemmas query log) (Lemma literals hints)
held_lemma query log literals hints = omega (arith, live_push query log literals hints)

held_drop : (query : Query) (log : List LogEntry) (number : ℕ) → NamesLive query log number
    → live_lemmas query (log ++ Forget number ∷ []) ≡ held_after (live_lemmas query log) (Forget number)
held_drop query log number live = omega (arith, live_drop query log number live)

-- a greatest number over a first entry and what follows it
step_below : (held next most rest : ℕ) → next ≡ held → held ≤ rest → rest ≤ most → next ≤ most
step_below held next most rest same low high = omega arith

-- at no moment of a log are more live than the most
below : (query : Query) (before front behind : List LogEntry) → EachDrop (NamesLive query) before (front ++ behind)
    → live_lemmas query (before ++ front) ≤ most_from (live_lemmas query before) (front ++ behind)
below query before [] behind drops = rw append-nil (at_least (live_lemmas query before) behind)
below query before (Lemma literals hints ∷ front) behind drops =
    let held = live_lemmas query before in
    let rest = below query (before ++ Lemma literals hints ∷ []) front behind drops in
    let most : live_lemmas query ((before ++ Lemma literals hints ∷ []) ++ front) ≤ most_from (suc held) (front ++ behind) =
    subst (λ (n : ℕ). live_lemmas query ((before ++ Lemma literals hints ∷ []) ++ front) ≤ most_from n (front ++ behind)) (held_lemma query before literals hints) rest in
    let moved : live_lemmas query (before ++ Lemma literals hints ∷ front) ≤ most_from (suc held) (front ++ behind) = rw append_assoc at most in
    omega (arith, moved)
below query before (Forget number ∷ front) behind drops =
    let held = live_lemmas query before in
    let rest = below query (before ++ Forget number ∷ []) front behind drops.1 in
    let most : live_lemmas query ((before ++ Forget number ∷ []) ++ front) ≤ most_from (held - 1) (front ++ behind) =
    subst (λ (n : ℕ). live_lemmas query ((before ++ Forget number ∷ []) ++ front) ≤ most_from n (front ++ behind)) (held_drop query before number drops.0) rest in
    let moved : live_lemmas query (before ++ Forget number ∷ front) ≤ most_from (held - 1) (front ++ behind) = rw append_assoc at most in
    omega (arith, moved)

pub live_below : (query : Query) (log front behind : List LogEntry) → DropsLive query log → log ≡ front ++ behind → live_lemmas query front ≤ most_live log
live_below query log front behind drops is =
    let here : EachDrop (NamesLive query) [] (front ++ behind) = rw is at drops in
    let most : live_lemmas query front ≤ most_from (live_lemmas query []) (front ++ behind) = below query [] front behind here in
    rw is (subst (λ (n : ℕ). live_lemmas query front ≤ most_from n (front ++ behind)) (live_none query) most)

-- and at some moment so many are
record Reached (query : Query) (before log : List LogEntry) (most : ℕ) : Type 0 where
  count : ℕ
  is : live_lemmas query (before ++ take count log) ≡ most

reached_first : (query : Query) (before log : List LogEntry) (most : ℕ) → live_lemmas query before ≡ most → Reached query before log most
reached_first query before log most is = record { count = 0; is = rw append-nil is }

reached_later : (query : Query) (before log : List LogEntry) (entry : LogEntry) (rest : ℕ) → Reached query (before ++ entry ∷ []) log rest
    → Reached query before (entry ∷ log) (max (live_lemmas query before) rest)
reached_later query before log entry rest next =
    elim (cases_lt rest (live_lemmas query before)) [
      | inl more ↦ reached_first query before (entry ∷ log) (max (live_lemmas query before) rest) (omega arith)
      | inr few ↦ record {
        count = suc next.count;
        is =
            let there : live_lemmas query (before ++ entry ∷ take next.count log) ≡ rest = rw append_assoc at next.is in
            let greatest : rest ≡ max (live_lemmas query before) rest = omega arith in
            there ∙ greatest;
      }
    ]

reached : (query : Query) (before log : List LogEntry) → EachDrop (NamesLive query) before log → Reached query before log (most_from (live_lemmas query before) log)
reached query before [] drops = reached_first query before [] (live_lemmas query before) refl
reached query before (Lemma literals hints ∷ log) drops =
    let next = reached query (before ++ Lemma literals hints ∷ []) log drops in
    reached_later query before log (Lemma literals hints) (most_from (suc (live_lemmas query before)) log)
    (subst (λ (n : ℕ). Reached query (before ++ Lemma literals hints ∷ []) log (most_from n log)) (held_lemma query before literals hints) next)
reached query before (Forget number ∷ log) drops =
    let next = reached query (before ++ Forget number ∷ []) log drops.1 in
    reached_later query before log (Forget number) (most_from (live_lemmas query before - 1) log)
    (subst (λ (n : ℕ). Reached query (before ++ Forget number ∷ []) log (most_from n log)) (held_drop query before number drops.0) next)

split_at : {X : Type 0} (count : ℕ) (xs : List X) → xs ≡ take count xs ++ drop count xs
split_at zero xs = refl
split_at (suc count) [] = refl
split_at (suc count) (x ∷ xs) = ap (λ ys. x ∷ ys) (split_at count xs)

pub most_is : (query : Query) (log : List LogEntry) → DropsLive query log → IsMostLive query log (most_live log)
most_is query log drops =
    let found = reached query [] log drops in
    record {
      none_more = λ count. live_below query log (take count log) (drop count log) drops (split_at count log);
      reached = (found.count, found.is ∙ ap (λ held. most_from held log) (live_none query));
    }
