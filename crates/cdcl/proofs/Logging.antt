-- A log with one lemma more.
use Rattle.std.proofs.Common.{◌≡◌, ◌≢◌, ℕ, zero, suc, ◌*◌, ◌/◌, ◌%◌, ◌<◌, ◌≤◌, ℤ, neg_ℤ, true, false, ltb, leb, List, [], ◌∷◌, ◌++◌, length, map, get_or, Some, None, inl, inr, refl, sym, ap, ◌∙◌, subst, arith}
use Rattle.std.specs.Bool.{IsTrue}
use Rattle.std.specs.Option.{option_map}
use Rattle.std.specs.List.{All, Contains}
use Rattle.std.proofs.lemmas.Bool.{cases_eq, and_from, le-leb, lt-ltb}
use Rattle.std.proofs.lemmas.List.Elements.{All-nil, All-cons, All-head, All-tail, All-contains}
use Rattle.clauses.specs.Literals.{variable_of, is_within, clause_within}
use Rattle.clauses.specs.Live.{Numbered, clause_of}
use Rattle.clauses.specs.Passing.{Passes}
use Rattle.clauses.specs.Logs.{LogEntry, is_empty_lemma, clauses_after, EachLemma, LemmaPasses}
use Rattle.clauses.specs.Logs.LogEntry.{Lemma, Forget}
use Rattle.cdcl_trail.specs.Literals.{opposite, signed}
use Rattle.cdcl_trail.specs.Renaming.{Renames}
use Rattle.cdcl_trail.proofs.Renaming.{passes-map, adds-map, signed-opposite, signed-apart}
use Rattle.cdcl_conflict_theory.specs.Trails.{Steps}
use Rattle.cdcl_conflict_theory.specs.Lemmas.{IsLearned}
use Rattle.cdcl_conflict_theory.proofs.Members.{contains-map, from_map, pairs-map, all_members}
use Rattle.cdcl.specs.Evidence.{IsGoodLemma}
use Rattle.cdcl.specs.Solving.{signed_clauses, IsLogged}

-- the clauses are the same but for the names of literals
renames_at : (clauses : Numbered ℕ) (place : ℕ) → get_or (signed_clauses clauses) place None ≡ option_map (map signed) (get_or clauses place None)
renames_at [] place = refl
renames_at (clause ∷ clauses) zero = refl
renames_at (clause ∷ clauses) (suc place) = renames_at clauses place

renames_number : (clauses : Numbered ℕ) (number : ℕ) → clause_of (signed_clauses clauses) number ≡ option_map (map signed) (clause_of clauses number)
renames_number clauses zero = refl
renames_number clauses (suc place) = renames_at clauses place

pub renames : (clauses : Numbered ℕ) (named : Numbered ℤ) → signed_clauses clauses ≡ named → Renames signed (clause_of clauses) (clause_of named)
renames clauses named same number = ap (λ (cs : Numbered ℤ). clause_of cs number) (sym same) ∙ renames_number clauses number

-- literals within the variables are so under their signed names
pub variable_signed : (literal : ℕ) → variable_of (signed literal) ≡ suc (literal / 2)
variable_signed literal =
    elim (cases_eq (literal % 2) 0) [
      | inl even ↦ rw even refl
      | inr odd ↦ let one : literal % 2 ≡ 1 = omega arith in rw one refl
    ]

within_one : (variables literal : ℕ) → literal < 2 * variables → is_within variables (signed literal) ≡ true
within_one variables literal below =
    let is = variable_signed literal in
    let size : suc (literal / 2) ≤ variables = omega arith in
    let front : ltb 0 (variable_of (signed literal)) ≡ true = rw is (lt-ltb 0 (suc (literal / 2)) (omega arith)) in
    let back : leb (variable_of (signed literal)) variables ≡ true = rw is (le-leb (suc (literal / 2)) variables size) in
    and_from (ltb 0 (variable_of (signed literal))) (leb (variable_of (signed literal)) variables) front back

pub within_signed : (variables : ℕ) (literals : List ℕ) → All (λ literal. literal < 2 * variables) literals → IsTrue (clause_within variables (map signed literals))
within_signed variables [] all = refl
within_signed variables (literal ∷ literals) all =
    and_from (is_within variables (signed literal)) (clause_within variables (map signed literals))
    (within_one variables literal (All-head (λ l. l < 2 * variables) literal literals all))
    (within_signed variables literals (All-tail (λ l. l < 2 * variables) literal literals all))

-- no lemma of a good log is empty
not_empty_is : (literals : List ℤ) (hints : List ℕ) → literals ≢ [] → is_empty_lemma (Lemma literals hints) ≡ false
not_empty_is [] hints some = absurd (some refl)
not_empty_is (literal ∷ literals) hints some = refl

none_empty_from : (variables : ℕ) (formula : List (List ℤ)) (before log : List LogEntry) → EachLemma (IsGoodLemma variables formula) before log → All (λ entry. is_empty_lemma entry ≡ false) log
none_empty_from variables formula before [] each = All-nil (λ entry. is_empty_lemma entry ≡ false)
none_empty_from variables formula before (Lemma literals hints ∷ log) each =
    All-cons (λ entry. is_empty_lemma entry ≡ false) (Lemma literals hints) log (not_empty_is literals hints each.0.not_empty)
    (none_empty_from variables formula (before ++ Lemma literals hints ∷ []) log each.1)
none_empty_from variables formula before (Forget number ∷ log) each =
    All-cons (λ entry. is_empty_lemma entry ≡ false) (Forget number) log refl (none_empty_from variables formula (before ++ Forget number ∷ []) log each)

pub none_empty : (variables : ℕ) (formula : List (List ℤ)) (log : List LogEntry) → EachLemma (IsGoodLemma variables formula) [] log → All (λ entry. is_empty_lemma entry ≡ false) log
none_empty variables formula log each = none_empty_from variables formula [] log each

-- the literals of a lemma are within the variables, where those of the clauses are
abbrev pub AreWithin : ℕ → Numbered ℕ → Type 0
AreWithin variables clauses = (number : ℕ) (clause : List ℕ) → clause_of clauses number ≡ Some clause → All (λ literal. literal < 2 * variables) clause

pub lemma_within : (variables : ℕ) (clauses : Numbered ℕ) (steps : Steps) (literals hints : List ℕ) → AreWithin variables clauses → IsLearned clauses steps literals hints → All (λ literal. literal < 2 * variables) literals
lemma_within variables clauses steps literals hints within is =
    all_members (λ literal. literal < 2 * variables) literals (λ literal there.
    let found = is.stands literal there in
    All-contains (λ l. l < 2 * variables) found.1 literal (within found.0 found.1 found.3) found.4)

-- a lemma passes under its signed literals
pub passes_signed : (variables : ℕ) (formula : List (List ℤ)) (clauses : Numbered ℕ) (log : List LogEntry) (literals hints : List ℕ) → IsLogged variables formula clauses log
    → All (λ literal. literal < 2 * variables) literals → Passes opposite (clause_of clauses) literals hints → LemmaPasses variables formula log (map signed literals) hints
passes_signed variables formula clauses log literals hints logged within passes = record {
  none_empty = none_empty variables formula log logged.good;
  within = within_signed variables literals within;
  refuted = passes-map signed opposite neg_ℤ signed-opposite signed-apart (clause_of clauses) (clause_of (clauses_after formula log)) literals hints
      (renames clauses (clauses_after formula log) logged.clauses_are) passes;
}

map_some : (literals : List ℕ) → literals ≢ [] → map signed literals ≢ []
map_some [] some none = some refl
map_some (literal ∷ literals) some none = omega (arith, ap length none)

learned_some : (clauses : Numbered ℕ) (steps : Steps) (literals hints : List ℕ) → IsLearned clauses steps literals hints → literals ≢ []
learned_some clauses steps literals hints is none = omega (arith, ap length (sym is.asserting.is ∙ none))

pub good_lemma : (variables : ℕ) (formula : List (List ℤ)) (clauses : Numbered ℕ) (log : List LogEntry) (steps : Steps) (literals hints : List ℕ) → IsLogged variables formula clauses log
    → AreWithin variables clauses → IsLearned clauses steps literals hints → IsGoodLemma variables formula log (map signed literals) hints
good_lemma variables formula clauses log steps literals hints logged within is =
    let names = renames clauses (clauses_after formula log) logged.clauses_are in
    record {
      passes = passes_signed variables formula clauses log literals hints logged (lemma_within variables clauses steps literals hints within is) is.passes;
      not_empty = map_some literals (learned_some clauses steps literals hints is);
      literals_once = pairs-map (λ literal other. literal ≢ other) signed literals
          (λ place other d order inside same. is.literals_once place other d order inside (signed-apart (get_or literals place d) (get_or literals other d) same));
      hints_once = is.hints_once;
      stands = λ literal there.
          let was = from_map signed literals literal there in
          let found = is.stands was.0 was.1 in (
            found.0,
            map signed found.1,
            found.2,
            names found.0 ∙ ap (option_map (map signed)) found.3,
            subst (Contains (map signed found.1)) was.2 (contains-map signed found.1 was.0 found.4),
          );
      adds = adds-map signed opposite neg_ℤ signed-opposite signed-apart (clause_of clauses) (clause_of (clauses_after formula log)) literals names is.adds;
    }
