-- A log with one drop more.
use Rattle.std.proofs.Common.{◌≡◌, ◌≢◌, ℕ, zero, suc, ◌+◌, ◌-◌, ◌*◌, ◌<◌, ◌≤◌, ℤ, Bool, true, false, cond, leb, List, [], ◌∷◌, ◌++◌, length, map, take, drop, set, get_or, slice_get, ltb, Option, Some, None, is_some, IsSome, IsSomeAnd, inl, inr, refl, sym, ap, ◌∙◌, subst, arith, append_assoc}
use Rattle.std.specs.Option.{option_map}
use Rattle.std.specs.List.{All, Contains, count_by}
use Rattle.std.proofs.lemmas.Bool.{cases_lt, leb-true, and_from, lt-ltb, le-leb}
use Rattle.std.proofs.lemmas.List.{length-set, length_push, map-set, take-append-le, take_all, get_or_default, append-nil}
use Rattle.std.proofs.lemmas.List.Sums.{sum_by-cons, sum_by-set, sum_by-take-drop}
use Rattle.std.proofs.lemmas.List.Elements.{All-contains}
use Rattle.clauses.specs.Live.{Numbered, clause_of, all_live, without}
use Rattle.clauses.specs.Logs.{LogEntry, is_number, log_words, lemmas, clauses_after}
use Rattle.clauses.specs.Logs.LogEntry.{Lemma, Forget}
use Rattle.clauses.proofs.Lives.{after_all-push, each_lemma-push_drop}
use Rattle.clause_store.specs.Stored.{place_words, live_clauses}
use Rattle.cdcl_trail.specs.Literals.{signed}
use Rattle.cdcl_propagation.specs.State.{State, IsSettled}
use Rattle.cdcl.specs.Evidence.{IsGoodLemma, DropsLive, IsLiveLemma, IsHalfLive, live_lemmas}
use Rattle.cdcl.specs.Solving.{signed_clauses, IsLogged, IsReady}
use Rattle.cdcl.specs.Reducing.{IsNoReason, CanDrop, IsReduced}
use Rattle.cdcl.specs.declared.solver.Solver.{Solver}
use Rattle.clauses.specs.declared.cnf.Cnf.{Cnf}
use Rattle.clauses.specs.Literals.{clause_words}
use Rattle.cdcl.proofs.Members.{number_within}
use Rattle.cdcl.proofs.Modelling.{formula_live}
use Rattle.cdcl.proofs.Logging.{renames}
use Rattle.cdcl.proofs.Stepping.{lemmas_push, words_push}

abbrev as_number : Bool → ℕ
as_number b = cond b 1 0

-- the places of a clause that is live
some_within : {X : Type 0} (xs : List (Option X)) (place : ℕ) → IsSome (get_or xs place None) → place < length xs
some_within [] place some = cc
some_within (x ∷ xs) zero some = omega arith
some_within (x ∷ xs) (suc place) some = let rest = some_within xs place some in omega arith

live_at : (clauses : Numbered ℕ) (number : ℕ) → IsSomeAnd (clause_of clauses number) (λ clause. 2 < length clause) → (clause : List ℕ) × (clause_of clauses number ≡ Some clause)
live_at clauses number long = by (clause_of clauses number) refl long
  where
    by : (was : Option (List ℕ)) → clause_of clauses number ≡ was → IsSomeAnd was (λ clause. 2 < length clause) → (clause : List ℕ) × (clause_of clauses number ≡ Some clause)
    by None is none = absurd none
    by (Some clause) is some = (clause, is)

-- how many are live behind a drop
count_one : (clauses : Numbered ℤ) (place : ℕ) → IsSome (get_or clauses place None) → count_by (λ clause. is_some clause) (set clauses place None) + 1 ≡ count_by (λ clause. is_some clause) clauses
count_one clauses place some =
    let within = some_within clauses place some in
    let one : as_number (is_some (get_or clauses place None)) ≡ 1 = is_one (get_or clauses place None) some in
    omega (arith, sum_by-set (λ (c : Option (List ℤ)). as_number (is_some c)) clauses place None None within, one)
  where
    is_one : (clause : Option (List ℤ)) → IsSome clause → as_number (is_some clause) ≡ 1
    is_one None some = cc
    is_one (Some clause) some = refl

drop_set : {X : Type 0} (count place : ℕ) (xs : List X) (y : X) → count ≤ place → drop count (set xs place y) ≡ set (drop count xs) (place - count) y
drop_set zero place xs y order = let same : place - 0 ≡ place = omega arith in rw same refl
drop_set (suc count) zero xs y order = absurd (omega arith)
drop_set (suc count) (suc place) [] y order = refl
drop_set (suc count) (suc place) (x ∷ xs) y order =
    let same : suc place - suc count ≡ place - count = omega arith in
    rw same (drop_set count place xs y (omega arith))

drop_at : {X : Type 0} (count place : ℕ) (xs : List X) (d : X) → count ≤ place → get_or (drop count xs) (place - count) d ≡ get_or xs place d
drop_at zero place xs d order = let same : place - 0 ≡ place = omega arith in rw same refl
drop_at (suc count) zero xs d order = absurd (omega arith)
drop_at (suc count) (suc place) [] d order = refl
drop_at (suc count) (suc place) (x ∷ xs) d order =
    let same : suc place - suc count ≡ place - count = omega arith in
    rw same (drop_at count place xs d (omega arith))

without_is : (size number : ℕ) (clauses : Numbered ℤ) → size < number → without size number clauses ≡ set clauses (number - 1) None
without_is size number clauses past = by (leb number size) refl
  where
    by : (kept : Bool) → leb number size ≡ kept → cond kept clauses (set clauses (number - 1) None) ≡ set clauses (number - 1) None
    by true is = let low = leb-true number size is in absurd (omega arith)
    by false is = refl

after_drop : (formula : List (List ℤ)) (log : List LogEntry) (number : ℕ) → length formula < number → clauses_after formula (log ++ Forget number ∷ []) ≡ set (clauses_after formula log) (number - 1) None
after_drop formula log number past =
    after_all-push (length formula) (all_live formula) log (Forget number) ∙ without_is (length formula) number (clauses_after formula log) past

number_at : {X : Type 0} (clauses : Numbered X) (number : ℕ) → 0 < number → clause_of clauses number ≡ get_or clauses (number - 1) None
number_at clauses zero some = absurd (omega arith)
number_at clauses (suc place) some = let same : suc place - 1 ≡ place = omega arith in rw same refl

live_drop : (formula : List (List ℤ)) (log : List LogEntry) (number : ℕ) → IsLiveLemma formula log number → live_lemmas formula (log ++ Forget number ∷ []) + 1 ≡ live_lemmas formula log
live_drop formula log number live =
    let size = length formula in
    let clauses = clauses_after formula log in
    let order : size ≤ number - 1 = omega (arith, live.0) in
    let there : IsSome (get_or clauses (number - 1) None) = rw (number_at clauses number (omega (arith, live.0))) at live.1 in
    let here : IsSome (get_or (drop size clauses) (number - 1 - size) None) = rw (drop_at size (number - 1) clauses None order) there in
    rw (after_drop formula log number live.0, drop_set size (number - 1) clauses None order) (count_one (drop size clauses) (number - 1 - size) here)

whole : (log : List LogEntry) → take (length log) log ≡ log
whole log = take_all (length log) log (omega arith)

half_drop : (formula : List (List ℤ)) (log : List LogEntry) (number : ℕ) → IsLiveLemma formula log number → lemmas log + 2 ≤ 2 * live_lemmas formula log
    → IsHalfLive formula log → IsHalfLive formula (log ++ Forget number ∷ [])
half_drop formula log number live stays half count =
    let more = log ++ Forget number ∷ [] in
    elim (cases_lt (length log) count) [
      | inl past ↦
          let all : take count more ≡ more = take_all count more (omega (arith, length_push log (Forget number))) in
          rw all (omega (arith, stays, lemmas_push log (Forget number), live_drop formula log number live))
      | inr within ↦ rw (take-append-le count log (Forget number ∷ []) within) (half count)
    ]

drops_more : (formula : List (List ℤ)) (before log : List LogEntry) (number : ℕ) → DropsLive formula before log → IsLiveLemma formula (before ++ log) number → DropsLive formula before (log ++ Forget number ∷ [])
drops_more formula before [] number each live = (rw append-nil at live, tt)
drops_more formula before (Lemma ls hs ∷ log) number each live = drops_more formula (before ++ Lemma ls hs ∷ []) log number each (rw append_assoc live)
drops_more formula before (Forget n ∷ log) number each live = (each.0, drops_more formula (before ++ Forget n ∷ []) log number each.1 (rw append_assoc live))

pub live_lemma : (variables : ℕ) (formula : List (List ℤ)) (clauses : Numbered ℕ) (log : List LogEntry) (number : ℕ) (clause : List ℕ) → IsLogged variables formula clauses log
    → length formula < number → clause_of clauses number ≡ Some clause → IsLiveLemma formula log number
live_lemma variables formula clauses log number clause logged past live =
    (past, rw (renames clauses (clauses_after formula log) logged.clauses_are number, live) refl)

pub logged_drop : (variables : ℕ) (formula : List (List ℤ)) (clauses : Numbered ℕ) (log : List LogEntry) (number : ℕ) (clause : List ℕ) → IsLogged variables formula clauses log
    → length formula < number → clause_of clauses number ≡ Some clause → lemmas log + 2 ≤ 2 * live_lemmas formula log
    → IsLogged variables formula (set clauses (number - 1) None) (log ++ Forget number ∷ [])
logged_drop variables formula clauses log number clause logged past live stays =
    let is_live = live_lemma variables formula clauses log number clause logged past live in
    let at : get_or clauses (number - 1) None ≡ Some clause = sym (number_at clauses number (omega arith)) ∙ live in
    let within : number - 1 < length clauses = some_within clauses (number - 1) (rw at refl) in
    record {
      clauses_are =
          map-set (option_map (map signed)) clauses (number - 1) None
          ∙ ap (λ (cs : Numbered ℤ). set cs (number - 1) None) logged.clauses_are
          ∙ sym (after_drop formula log number past);
      good = each_lemma-push_drop (IsGoodLemma variables formula) [] log number logged.good;
      drops_live = drops_more formula [] log number logged.drops_live is_live;
      half_live = half_drop formula log number is_live stays logged.half_live;
      numbers = omega (arith, logged.numbers, length-set clauses (number - 1) None, lemmas_push log (Forget number));
      words = omega (arith, logged.words, length-set clauses (number - 1) None, words_push log (Forget number), sum_by-set place_words clauses (number - 1) None None within);
    }

-- how many clauses are live
count_signed : (clauses : Numbered ℕ) → count_by (λ clause. is_some clause) (signed_clauses clauses) ≡ live_clauses clauses
count_signed [] = refl
count_signed (None ∷ clauses) =
    omega (arith, count_signed clauses, sum_by-cons (λ (c : Option (List ℤ)). as_number (is_some c)) None (signed_clauses clauses), sum_by-cons (λ (c : Option (List ℕ)). as_number (is_some c)) None clauses)
count_signed (Some clause ∷ clauses) =
    omega (
      arith,
      count_signed clauses,
      sum_by-cons (λ (c : Option (List ℤ)). as_number (is_some c)) (Some (map signed clause)) (signed_clauses clauses),
      sum_by-cons (λ (c : Option (List ℕ)). as_number (is_some c)) (Some clause) clauses,
    )

all_some : (clauses : Numbered ℤ) (count : ℕ) → ((place : ℕ) → place < count → IsSome (get_or clauses place None)) → count_by (λ clause. is_some clause) (take count clauses) ≡ count
all_some clauses zero each = refl
all_some [] (suc count) each = let none = each 0 (omega arith) in cc
all_some (None ∷ clauses) (suc count) each = let none = each 0 (omega arith) in cc
all_some (Some clause ∷ clauses) (suc count) each =
    let rest = all_some clauses count (λ place below. each (suc place) (omega arith)) in
    omega (arith, rest, sum_by-cons (λ (c : Option (List ℤ)). as_number (is_some c)) (Some clause) (take count clauses))

some_clause : (formula : List (List ℤ)) (place : ℕ) → place < length formula → (clause : List ℤ) × (slice_get formula place ≡ Some clause)
some_clause [] place within = absurd (omega arith)
some_clause (clause ∷ formula) zero within = (clause, refl)
some_clause (clause ∷ formula) (suc place) within = some_clause formula place (omega arith)

pub live_count : (variables : ℕ) (formula : List (List ℤ)) (clauses : Numbered ℕ) (log : List LogEntry) → IsLogged variables formula clauses log → live_clauses clauses ≡ length formula + live_lemmas formula log
live_count variables formula clauses log logged =
    let after = clauses_after formula log in
    let first = all_some after (length formula) (λ place within.
    let found = some_clause formula place within in
    rw (formula_live formula log place found.0 found.1) refl) in
    omega (
      arith,
      first,
      sum_by-take-drop (λ (c : Option (List ℤ)). as_number (is_some c)) after (length formula),
      count_signed clauses,
      ap (λ (cs : Numbered ℤ). count_by (λ clause. is_some clause) cs) logged.clauses_are,
    )

-- a clause that is the reason of none of its literals is no reason at all
no_number : (clauses : Numbered ℕ) (number : ℕ) (clause : List ℕ) → clause_of clauses number ≡ Some clause → number ≢ 0
no_number clauses zero clause live same = cc
no_number clauses (suc place) clause live same = omega arith

pub unused_of : (state : State) (number : ℕ) (clause : List ℕ) → IsSettled state → clause_of state.clauses number ≡ Some clause → All (IsNoReason state.path number) clause
    → All (λ reason. reason ≢ number) state.path.reasons
unused_of state number clause settled live none place d within same =
    let path = state.path in
    let reason : get_or path.reasons place 0 ≡ number = get_or_default path.reasons place 0 d within ∙ same in
    let inside : place < length path.literals = omega (arith, settled.path.reasons) in
    elim (settled.reasons place inside) [
      | inl decision ↦ no_number state.clauses number clause live (sym reason ∙ decision.1)
      | inr has ↦
          let is : has.clause ≡ clause = some_same has.clause clause (sym has.live ∙ ap (clause_of state.clauses) reason ∙ live) in
          let there : Contains clause (get_or path.literals place 0) = subst (λ (c : List ℕ). Contains c (get_or path.literals place 0)) is has.stands in
          All-contains (IsNoReason path number) clause (get_or path.literals place 0) none there place inside refl reason
    ]
  where
    some_same : {X : Type 0} (x y : X) → Some x ≡ Some y → x ≡ y
    some_same x y same = cc

pub can_drop_of : (solver : Solver) (number : ℕ) (clause : List ℕ) (live : ℕ) → IsReady solver → IsSettled solver.propagator → length solver.formula.now.clauses < number
    → clause_of solver.propagator.clauses number ≡ Some clause → 2 < length clause → live ≡ live_clauses solver.propagator.clauses
    → lemmas solver.log + 2 + 2 * length solver.formula.now.clauses ≤ 2 * live → All (IsNoReason solver.propagator.path number) clause → CanDrop solver number
can_drop_of solver number clause live ready settled past is long count stays none = record {
  past = past;
  long = rw is long;
  unused = unused_of solver.propagator number clause settled is none;
  half = omega (arith, stays, count, live_count solver.formula.now.variables solver.formula.now.clauses solver.propagator.clauses solver.log ready.logged);
}

-- the lemma is dropped
pub number_fits : (solver : Solver) (number : ℕ) → IsReady solver → clause_words solver.formula.now.clauses ≤ 400000000 → log_words solver.log ≤ 100000000 → CanDrop solver number → is_number number ≡ true
number_fits solver number ready small few can =
    let found = live_at solver.propagator.clauses number can.long in
    let within = number_within solver.propagator.clauses number found.0 found.1 in
    and_from (ltb 0 number) (leb number 2147483647) (lt-ltb 0 number within.0) (le-leb number 2147483647 (omega (arith, within.1, ready.logged.words)))

pub reduced_by : (old new : Solver) (number : ℕ) → IsReady old → CanDrop old number → new.formula ≡ old.formula → new.analyzer ≡ old.analyzer → new.log ≡ old.log ++ Forget number ∷ []
    → new.propagator ≡ record old.propagator { clauses = set old.propagator.clauses (number - 1) None } → IsReduced old new
reduced_by old new number ready can formula analyzer log state =
    let found = live_at old.propagator.clauses number can.long in
    let cnf = old.formula.now in
    let same = ap (λ f. f.now) formula in
    record {
      formula = formula;
      ready = record {
        variables = ap (λ (s : State). s.path.variables) state ∙ ready.variables ∙ sym (ap (λ (f : Cnf). f.variables) same);
        room = analyzer ∙ ready.room ∙ sym (ap (λ (f : Cnf). f.variables) same);
        logged = rw (same, log, state) (logged_drop cnf.variables cnf.clauses old.propagator.clauses old.log number found.0 ready.logged can.past found.1 can.half);
      };
      lemmas = omega (arith, ap lemmas log, lemmas_push old.log (Forget number));
      words = omega (arith, ap log_words log, words_push old.log (Forget number));
    }

pub reduced_none : (old new : Solver) → IsReady old → new.formula ≡ old.formula → new.analyzer ≡ old.analyzer → new.log ≡ old.log → new.propagator ≡ old.propagator → IsReduced old new
reduced_none old new ready formula analyzer log state =
    let same = ap (λ f. f.now) formula in
    record {
      formula = formula;
      ready = record {
        variables = ap (λ (s : State). s.path.variables) state ∙ ready.variables ∙ sym (ap (λ (f : Cnf). f.variables) same);
        room = analyzer ∙ ready.room ∙ sym (ap (λ (f : Cnf). f.variables) same);
        logged = rw (same, log, state) ready.logged;
      };
      lemmas = ap lemmas log;
      words = ap log_words log;
    }

pub reduced_both : (old middle new : Solver) → IsReduced old middle → IsReduced middle new → IsReduced old new
reduced_both old middle new first second = record {
  formula = second.formula ∙ first.formula;
  ready = second.ready;
  lemmas = second.lemmas ∙ first.lemmas;
  words = second.words ∙ first.words;
}
