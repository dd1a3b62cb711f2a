-- The numbers in a log that refutes have lines.
use Rattle.std.proofs.Common.{◌≡◌, ℕ, zero, suc, ◌+◌, ◌<◌, ◌≤◌, ℤ, Bool, true, cond, leb, ltb, List, [], ◌∷◌, ◌++◌, length, get_or, Some, None, IsSome, neg_ℤ, refl, arith}
use Rattle.std.specs.Bool.{IsTrue}
use Rattle.std.specs.List.{list_all}
use Rattle.std.proofs.lemmas.Bool.{and_from, le-leb, lt-ltb}
use Rattle.std.proofs.lemmas.List.Sums.{sum_by-cons, sum_by_push}
use Rattle.clauses.specs.Literals.{clause_within, clause_words}
use Rattle.clauses.specs.Live.{Numbered, clause_of}
use Rattle.clauses.specs.Logs.{LogEntry, EachLemma, LemmaPasses, clauses_after, is_entry, is_lemma, is_number, lemmas}
use Rattle.clauses.specs.Logs.LogEntry.{Lemma, Forget}
use Rattle.clauses.specs.Passing.{Passes}
use Rattle.clauses.specs.declared.flat.TheConstants.{MOST_VARIABLES}
use Rattle.clauses.proofs.Within.{within-wider}
use Rattle.cert_theory.specs.Sections.{NamesLive, Query}
use Rattle.cert_text.specs.Evidence.{EachDrop, IsRefuted}
use Rattle.cert_text.proofs.Counting.{lemmas_words}
use Rattle.cert_text.proofs.Living.{numbered_after}

abbrev as_number : Bool → ℕ
as_number b = cond b 1 0

-- a live clause has a number of those that there are
some_place : (clauses : Numbered ℤ) (place : ℕ) → IsSome (get_or clauses place None) → place < length clauses
some_place [] place some = cc
some_place (clause ∷ clauses) zero some = omega arith
some_place (clause ∷ clauses) (suc place) some = let rest = some_place clauses place some in omega arith

number_of : (clauses : Numbered ℤ) (number : ℕ) → length clauses ≤ MOST_VARIABLES → IsSome (clause_of clauses number) → is_number number ≡ true
number_of clauses zero few some = cc
number_of clauses (suc place) few some =
    and_from (ltb 0 (suc place)) (leb (suc place) MOST_VARIABLES) (lt-ltb 0 (suc place) (omega arith)) (le-leb (suc place) MOST_VARIABLES (omega (arith, some_place clauses place some)))

number_at : (clauses : Numbered ℤ) (number : ℕ) (clause : List ℤ) → length clauses ≤ MOST_VARIABLES → clause_of clauses number ≡ Some clause → is_number number ≡ true
number_at clauses number clause few is = number_of clauses number few (rw is refl)

-- the hints of a lemma that passes
hints_of : (clauses : Numbered ℤ) (set : List ℤ) (hints : List ℕ) → length clauses ≤ MOST_VARIABLES → Passes neg_ℤ (clause_of clauses) set hints → IsTrue (list_all is_number hints)
hints_of clauses set [] few passes = absurd passes
hints_of clauses set (hint ∷ []) few passes = and_from (is_number hint) true (number_at clauses hint passes.0 few passes.1) refl
hints_of clauses set (hint ∷ (next ∷ hints)) few passes =
    and_from (is_number hint) (list_all is_number (next ∷ hints)) (number_at clauses hint passes.0 few passes.2)
    (hints_of clauses (set ++ neg_ℤ passes.1 ∷ []) (next ∷ hints) few passes.4)

-- with one entry more
pub lemmas_push : (log : List LogEntry) (entry : LogEntry) → lemmas (log ++ entry ∷ []) ≡ lemmas log + as_number (is_lemma entry)
lemmas_push log entry = sum_by_push (λ e. as_number (is_lemma e)) log entry

-- the entries of a log behind others
entries : (query : Query) (before log : List LogEntry) → query.variables ≤ MOST_VARIABLES → length query.clauses + lemmas before + lemmas log ≤ MOST_VARIABLES
    → EachLemma (LemmaPasses query.variables query.clauses) before log → EachDrop (NamesLive query) before log → IsTrue (list_all is_entry log)
entries query before [] variables few passes drops = refl
entries query before (Lemma literals hints ∷ log) variables few passes drops =
    let lemma = passes.0 in
    let clauses = clauses_after query.clauses before in
    let size : length clauses ≤ MOST_VARIABLES = omega (arith, few, numbered_after query.clauses before) in
    let numbers = hints_of clauses literals hints size lemma.refuted in
    let here = and_from (clause_within MOST_VARIABLES literals) (list_all is_number hints) (within-wider query.variables MOST_VARIABLES variables literals lemma.within) numbers in
    let left : length query.clauses + lemmas (before ++ Lemma literals hints ∷ []) + lemmas log ≤ MOST_VARIABLES =
    omega (arith, few, lemmas_push before (Lemma literals hints), sum_by-cons (λ entry. as_number (is_lemma entry)) (Lemma literals hints) log) in
    and_from (is_entry (Lemma literals hints)) (list_all is_entry log) here (entries query (before ++ Lemma literals hints ∷ []) log variables left passes.1 drops)
entries query before (Forget number ∷ log) variables few passes drops =
    let clauses = clauses_after query.clauses before in
    let size : length clauses ≤ MOST_VARIABLES = omega (arith, few, numbered_after query.clauses before) in
    let here = number_of clauses number size drops.0.1 in
    let left : length query.clauses + lemmas (before ++ Forget number ∷ []) + lemmas log ≤ MOST_VARIABLES =
    omega (arith, few, lemmas_push before (Forget number), sum_by-cons (λ entry. as_number (is_lemma entry)) (Forget number) log) in
    and_from (is_entry (Forget number)) (list_all is_entry log) here (entries query (before ++ Forget number ∷ []) log variables left passes drops.1)

-- each clause has a word
clauses_words : (clauses : List (List ℤ)) → length clauses ≤ clause_words clauses
clauses_words [] = omega arith
clauses_words (clause ∷ clauses) = omega (arith, clauses_words clauses, sum_by-cons (λ (c : List ℤ). length c + 1) clause clauses)

pub refuted_entries : (query : Query) (log : List LogEntry) → IsRefuted query log → IsTrue (list_all is_entry log)
refuted_entries query log refuted =
    let few : length query.clauses + lemmas [] + lemmas log ≤ MOST_VARIABLES = omega (arith, refuted.words, clauses_words query.clauses, lemmas_words log) in
    entries query [] log refuted.variables few refuted.refutes.all_pass refuted.drops_live
