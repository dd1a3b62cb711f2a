-- Runs that lie one behind the other in a region, and their clauses.
use Rattle.std.proofs.Common.{◌≡◌, ℕ, zero, suc, ◌+◌, ◌-◌, ◌/◌, ◌%◌, ◌<◌, ◌≤◌, Bool, true, false, cond, nat_eq, List, [], ◌∷◌, ◌++◌, length, set, get_or, take, drop, slice_index, Some, None, refl, sym, ap, subst, ◌∙◌, arith}
use Rattle.std.proofs.lemmas.List.{ext_get_or, get_or-take, get_or-drop, length-drop, length-take-le}
use Rattle.clause_store.specs.Stored.{place_words}
use Rattle.clause_store.specs.Fields.{begin_at, clause_from, clauses_from, IsRising}

pub length-clauses : (words : List ℕ) (begin : ℕ) (ends : List ℕ) → length (clauses_from words begin ends) ≡ length ends
length-clauses words begin [] = refl
length-clauses words begin (code ∷ ends) = ap suc (length-clauses words (code / 2) ends)

begin_at-cons : (begin code : ℕ) (ends : List ℕ) (place : ℕ) → begin_at begin (code ∷ ends) (suc place) ≡ begin_at (code / 2) ends place
begin_at-cons begin code ends zero = refl
begin_at-cons begin code ends (suc place) = refl

-- the clause of a place, by where its run begins and by its code
pub get-clauses : (words : List ℕ) (begin : ℕ) (ends : List ℕ) (place : ℕ) → place < length ends
    → get_or (clauses_from words begin ends) place None ≡ clause_from words (begin_at begin ends place) (slice_index ends place)
get-clauses words begin [] place within = absurd (omega (arith, within))
get-clauses words begin (code ∷ ends) zero within = refl
get-clauses words begin (code ∷ ends) (suc place) within =
    get-clauses words (code / 2) ends place (omega (arith, within))
    ∙ ap (λ from. clause_from words from (slice_index ends place)) (sym (begin_at-cons begin code ends place))

pub rising-order : (begin : ℕ) (ends : List ℕ) (stop : ℕ) → IsRising begin ends stop → begin ≤ stop
rising-order begin [] stop rising = omega (arith, rising)
rising-order begin (code ∷ ends) stop rising =
    let rest = rising-order (code / 2) ends stop rising.1 in
    omega (arith, rising.0, rest)

-- where a run lies
pub record Lies (begin code stop : ℕ) : Type 0 where
  pub order : begin ≤ code / 2
  pub within : code / 2 ≤ stop

pub lies : (begin : ℕ) (ends : List ℕ) (stop place : ℕ) → IsRising begin ends stop → place < length ends → Lies (begin_at begin ends place) (slice_index ends place) stop
lies begin [] stop place rising within = absurd (omega (arith, within))
lies begin (code ∷ ends) stop zero rising within = record { order = rising.0; within = rising-order (code / 2) ends stop rising.1 }
lies begin (code ∷ ends) stop (suc place) rising within =
    rw (begin_at-cons begin code ends place) (lies (code / 2) ends stop place rising.1 (omega (arith, within)))

-- how many words a run's clause has
words-by : (there : Bool) (words : List ℕ) (begin stop : ℕ) → stop ≤ length words
    → place_words (cond there (Some (take (stop - begin) (drop begin words))) None) ≡ cond there (stop - begin) 0
words-by true words begin stop within = length-take-le (stop - begin) (drop begin words) (omega (arith, within, length-drop begin words))
words-by false words begin stop within = refl

pub clause-words : (words : List ℕ) (begin code : ℕ) → code / 2 ≤ length words → place_words (clause_from words begin code) ≡ cond (nat_eq (code % 2) 0) (code / 2 - begin) 0
clause-words words begin code within = words-by (nat_eq (code % 2) 0) words begin (code / 2) within

-- the same words, at two places of two regions
pub window-same : (words words' : List ℕ) (begin begin' size : ℕ) → begin + size ≤ length words → begin' + size ≤ length words'
    → ((place : ℕ) → place < size → slice_index words' (begin' + place) ≡ slice_index words (begin + place)) → take size (drop begin' words') ≡ take size (drop begin words)
window-same words words' begin begin' size within within' same =
    let long : length (take size (drop begin words)) ≡ size = length-take-le size (drop begin words) (omega (arith, within, length-drop begin words)) in
    let long' : length (take size (drop begin' words')) ≡ size = length-take-le size (drop begin' words') (omega (arith, within', length-drop begin' words')) in
    ext_get_or 0 (take size (drop begin' words')) (take size (drop begin words)) (long' ∙ sym long)
    (λ place lt.
    let low : place < size = omega (arith, lt, long') in
    get_or-take size (drop begin' words') place 0 low ∙ get_or-drop begin' words' place 0 ∙ same place low
    ∙ sym (get_or-take size (drop begin words) place 0 low ∙ get_or-drop begin words place 0))

-- the clauses of runs in a part of the region that stays
pub clauses-same : (words words' : List ℕ) (begin : ℕ) (ends : List ℕ) (stop : ℕ) → IsRising begin ends stop → stop ≤ length words → stop ≤ length words'
    → ((place : ℕ) → begin ≤ place → place < stop → slice_index words' place ≡ slice_index words place) → clauses_from words' begin ends ≡ clauses_from words begin ends
clauses-same words words' begin [] stop rising within within' same = refl
clauses-same words words' begin (code ∷ ends) stop rising within within' same =
    let beyond : code / 2 ≤ stop = rising-order (code / 2) ends stop rising.1 in
    let here : take (code / 2 - begin) (drop begin words') ≡ take (code / 2 - begin) (drop begin words) =
    window-same words words' begin begin (code / 2 - begin) (omega (arith, rising.0, beyond, within)) (omega (arith, rising.0, beyond, within'))
    (λ place lt. same (begin + place) (omega arith) (omega (arith, lt, rising.0, beyond))) in
    let rest : clauses_from words' (code / 2) ends ≡ clauses_from words (code / 2) ends =
    clauses-same words words' (code / 2) ends stop rising.1 within within' (λ place low high. same place (omega (arith, low, rising.0)) high) in
    ap (λ words. cond (nat_eq (code % 2) 0) (Some words) None ∷ clauses_from words' (code / 2) ends) here
    ∙ ap (λ clauses. clause_from words begin code ∷ clauses) rest

-- a run more
pub clauses-more : (words : List ℕ) (begin : ℕ) (ends : List ℕ) (stop code : ℕ) → IsRising begin ends stop
    → clauses_from words begin (ends ++ code ∷ []) ≡ clauses_from words begin ends ++ clause_from words stop code ∷ []
clauses-more words begin [] stop code rising = ap (λ from. clause_from words from code ∷ []) rising
clauses-more words begin (first ∷ ends) stop code rising =
    ap (λ clauses. clause_from words begin first ∷ clauses) (clauses-more words (first / 2) ends stop code rising.1)

pub rising-more : (begin : ℕ) (ends : List ℕ) (stop code : ℕ) → IsRising begin ends stop → stop ≤ code / 2 → IsRising begin (ends ++ code ∷ []) (code / 2)
rising-more begin [] stop code rising order = (omega (arith, rising, order), refl)
rising-more begin (first ∷ ends) stop code rising order = (rising.0, rising-more (first / 2) ends stop code rising.1 order)

-- the code of a run whose clause is there is even, and that of the run without its clause is the next number
pub clauses-out : (words : List ℕ) (begin : ℕ) (ends : List ℕ) (place : ℕ) → place < length ends → slice_index ends place % 2 ≡ 0
    → clauses_from words begin (set ends place (slice_index ends place + 1)) ≡ set (clauses_from words begin ends) place None
clauses-out words begin [] place within even = absurd (omega (arith, within))
clauses-out words begin (code ∷ ends) zero within even =
    let odd : (code + 1) % 2 ≡ 1 = omega (arith, even) in
    let same : (code + 1) / 2 ≡ code / 2 = omega (arith, even) in
    ap (λ bit. cond (nat_eq bit 0) (Some (take ((code + 1) / 2 - begin) (drop begin words))) None ∷ clauses_from words ((code + 1) / 2) ends) odd
    ∙ ap (λ from. None ∷ clauses_from words from ends) same
clauses-out words begin (code ∷ ends) (suc place) within even =
    ap (λ clauses. clause_from words begin code ∷ clauses) (clauses-out words (code / 2) ends place (omega (arith, within)) even)

pub rising-out : (begin : ℕ) (ends : List ℕ) (stop place : ℕ) → place < length ends → slice_index ends place % 2 ≡ 0
    → IsRising begin ends stop → IsRising begin (set ends place (slice_index ends place + 1)) stop
rising-out begin [] stop place within even rising = absurd (omega (arith, within))
rising-out begin (code ∷ ends) stop zero within even rising =
    let same : (code + 1) / 2 ≡ code / 2 = omega (arith, even) in
    rw same rising
rising-out begin (code ∷ ends) stop (suc place) within even rising = (rising.0, rising-out (code / 2) ends stop place (omega (arith, within)) even rising.1)

-- the region cut where its runs end
pub clauses-cut : (words : List ℕ) (begin : ℕ) (ends : List ℕ) (stop : ℕ) → IsRising begin ends stop → stop ≤ length words
    → clauses_from (take stop words) begin ends ≡ clauses_from words begin ends
clauses-cut words begin ends stop rising within =
    clauses-same words (take stop words) begin ends stop rising within (omega (arith, length-take-le stop words within))
    (λ place low high. get_or-take stop words place 0 high)

-- the region cut behind its runs
pub rising-cut : (words : List ℕ) (begin : ℕ) (ends : List ℕ) (stop : ℕ) → IsRising begin ends stop → stop ≤ length words → IsRising begin ends (length (take stop words))
rising-cut words begin ends stop rising within = subst (λ size. IsRising begin ends size) (sym (length-take-le stop words within)) rising
