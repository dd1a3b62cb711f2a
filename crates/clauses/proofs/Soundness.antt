-- Each lemma that passes is met by every model, so that the empty one cannot pass where there is a model.
use Rattle.std.proofs.Common.{◌≡◌, ℕ, zero, suc, ◌<◌, ℤ, pos, negsuc, neg_ℤ, Bool, true, false, List, [], ◌∷◌, ◌++◌, length, get_or, Option, Some, None, refl, sym, ◌∙◌, subst, arith, append_assoc, ◌⊎◌, inl, inr}
use Rattle.std.specs.Bool.{IsTrue}
use Rattle.std.specs.List.{list_any, list_all, All, Contains}
use Rattle.std.proofs.lemmas.Bool.{and_parts, or_cases, or_parts, true_from_ne_false, true≢false, false≢true, not-true}
use Rattle.std.proofs.lemmas.List.{append-nil}
use Rattle.std.proofs.lemmas.List.Elements.{All-contains, All-cons, All-nil, Contains-push_cases}
use Rattle.clauses.specs.Literals.{is_within, clause_within, clauses_within}
use Rattle.clauses.specs.Models.{Assignment, is_true, meets, IsModel}
use Rattle.clauses.specs.Live.{clause_of, all_live}
use Rattle.clauses.specs.Passing.{Passes}
use Rattle.clauses.specs.Logs.{LogEntry, clauses_after, LemmaPasses, EachLemma, Refutes}
use Rattle.clauses.specs.Logs.LogEntry.{Lemma, Forget}
use Rattle.clauses.proofs.Lives.{EachLive, each_from, each_live-push, each_live-without, after_all-push, each_lemma-at, each_lemma-front}

-- the first member that meets a test, and none
pub member_from_any : {X : Type 0} (test : X → Bool) (xs : List X) → list_any test xs ≡ true → (x : X) × Contains xs x × (test x ≡ true)
member_from_any test [] some = absurd (false≢true some)
member_from_any test (x ∷ xs) some =
    elim (or_cases (test x) (list_any test xs) some) [
      | inl here ↦ (x, (0, omega arith, refl), here)
      | inr there ↦ let found = member_from_any test xs there in (found.0, (suc found.1.0, omega (arith, found.1.1), found.1.2), found.2)
    ]

pub none_from_any : {X : Type 0} (test : X → Bool) (xs : List X) → list_any test xs ≡ false → All (λ x. test x ≡ false) xs
none_from_any test [] none = All-nil (λ x. test x ≡ false)
none_from_any test (x ∷ xs) none =
    let parts = or_parts (test x) (list_any test xs) none in
    All-cons (λ x. test x ≡ false) x xs parts.0 (none_from_any test xs parts.1)

-- a member of a clause within variables is a literal of one of them
member_at : (variables : ℕ) (clause : List ℤ) (literal : ℤ) (place : ℕ) → IsTrue (clause_within variables clause) → place < length clause → get_or clause place literal ≡ literal → is_within variables literal ≡ true
member_at variables [] literal place all within at = absurd (omega arith)
member_at variables (first ∷ clause) literal zero all within at =
    let parts = and_parts (is_within variables first) (clause_within variables clause) all in
    subst (λ (l : ℤ). is_within variables l ≡ true) at parts.0
member_at variables (first ∷ clause) literal (suc place) all within at =
    let parts = and_parts (is_within variables first) (clause_within variables clause) all in
    member_at variables clause literal place parts.1 (omega arith) at

pub member_within : (variables : ℕ) (clause : List ℤ) (literal : ℤ) → IsTrue (clause_within variables clause) → Contains clause literal → is_within variables literal ≡ true
member_within variables clause literal all member = member_at variables clause literal member.0 all member.1 member.2

-- the negation of what is true is false
negation_false : (values : Assignment) (literal : ℤ) (variables : ℕ) → is_within variables literal ≡ true → is_true values literal ≡ true → is_true values (neg_ℤ literal) ≡ false
negation_false values (pos zero) variables within holds = absurd (false≢true within)
negation_false values (pos (suc n)) variables within holds = rw holds
negation_false values (negsuc n) variables within holds = not-true (values (suc n)) holds

-- what is met by a model and within the variables
abbrev pub IsMet : Assignment → ℕ → List ℤ → Type 0
IsMet values variables clause = IsTrue (meets values clause) × IsTrue (clause_within variables clause)

-- where the literals of the set are false, a lemma with that set does not pass
refuted : (values : Assignment) (variables : ℕ) (live : ℕ → Option (List ℤ)) → ((number : ℕ) (clause : List ℤ) → live number ≡ Some clause → IsMet values variables clause)
    → (set : List ℤ) (hints : List ℕ) → ((literal : ℤ) → Contains set literal → is_true values literal ≡ false) → Passes neg_ℤ live set hints → ⊥
refuted values variables live each set [] falses passes = passes
refuted values variables live each set (hint ∷ []) falses passes =
    let met = each hint passes.0 passes.1 in
    let found = member_from_any (is_true values) passes.0 met.0 in
    true≢false (sym found.2 ∙ falses found.0 (All-contains (Contains set) passes.0 found.0 passes.2 found.1))
refuted values variables live each set (hint ∷ (next ∷ hints)) falses passes =
    let met = each hint passes.0 passes.2 in
    let left = passes.3 in
    let found = member_from_any (is_true values) passes.0 met.0 in
    let holds : is_true values passes.1 ≡ true =
    elim (All-contains (λ other. (other ≡ passes.1) ⊎ Contains set other) passes.0 found.0 left.others found.1) [
      | inl same ↦ subst (λ (l : ℤ). is_true values l ≡ true) same found.2
      | inr member ↦ absurd (true≢false (sym found.2 ∙ falses found.0 member))
    ] in
    let negated = negation_false values passes.1 variables (member_within variables passes.0 passes.1 met.1 left.in_clause) holds in
    refuted values variables live each (set ++ neg_ℤ passes.1 ∷ []) (next ∷ hints)
    (λ literal member. elim (Contains-push_cases set (neg_ℤ passes.1) literal member) [
      | inl old ↦ falses literal old
      | inr new ↦ subst (λ (l : ℤ). is_true values l ≡ false) new negated
    ])
    passes.4

-- a lemma that passes is met
passing_met : (values : Assignment) (variables : ℕ) (live : ℕ → Option (List ℤ)) → ((number : ℕ) (clause : List ℤ) → live number ≡ Some clause → IsMet values variables clause)
    → (literals : List ℤ) (hints : List ℕ) → Passes neg_ℤ live literals hints → IsTrue (meets values literals)
passing_met values variables live each literals hints passes =
    true_from_ne_false (meets values literals) (λ unmet.
    refuted values variables live each literals hints
    (λ literal member. All-contains (λ l. is_true values l ≡ false) literals literal (none_from_any (is_true values) literals unmet) member)
    passes)

-- the formula's clauses are met by a model
met_at : (values : Assignment) (variables : ℕ) (formula : List (List ℤ)) → IsModel values formula → IsTrue (clauses_within variables formula)
    → (place : ℕ) (clause : List ℤ) → get_or (all_live formula) place None ≡ Some clause → IsMet values variables clause
met_at values variables [] model within place clause at = cc
met_at values variables (first ∷ formula) model within zero clause at =
    let same : first ≡ clause = cc in
    subst (IsMet values variables) same (
      (and_parts (meets values first) (list_all (meets values) formula) model).0,
      (and_parts (clause_within variables first) (clauses_within variables formula) within).0,
    )
met_at values variables (first ∷ formula) model within (suc place) clause at =
    met_at values variables formula
    (and_parts (meets values first) (list_all (meets values) formula) model).1
    (and_parts (clause_within variables first) (clauses_within variables formula) within).1
    place clause at

-- each live clause is met, whatever passes
each_met : (values : Assignment) (variables : ℕ) (formula : List (List ℤ)) (before log : List LogEntry) → EachLemma (LemmaPasses variables formula) before log →
    EachLive (IsMet values variables) (clauses_after formula before) → EachLive (IsMet values variables) (clauses_after formula (before ++ log))
each_met values variables formula before [] passes each = rw append-nil each
each_met values variables formula before (Lemma literals hints ∷ log) passes each =
    let lemma = passes.0 in
    let met = passing_met values variables (clause_of (clauses_after formula before)) each literals hints lemma.refuted in
    let next : EachLive (IsMet values variables) (clauses_after formula (before ++ Lemma literals hints ∷ [])) =
    rw (after_all-push (length formula) (all_live formula) before (Lemma literals hints))
    (each_live-push (IsMet values variables) (clauses_after formula before) literals each (met, lemma.within)) in
    rw append_assoc at (each_met values variables formula (before ++ Lemma literals hints ∷ []) log passes.1 next)
each_met values variables formula before (Forget number ∷ log) passes each =
    let next : EachLive (IsMet values variables) (clauses_after formula (before ++ Forget number ∷ [])) =
    rw (after_all-push (length formula) (all_live formula) before (Forget number))
    (each_live-without (IsMet values variables) (length formula) number (clauses_after formula before) each) in
    rw append_assoc at (each_met values variables formula (before ++ Forget number ∷ []) log passes next)

-- a refuted formula has no model
pub no_model : (values : Assignment) (variables : ℕ) (formula : List (List ℤ)) (log : List LogEntry) → IsTrue (clauses_within variables formula) →
    Refutes variables formula log → IsModel values formula → ⊥
no_model values variables formula log within refutes model =
    let passes : EachLemma (LemmaPasses variables formula) [] (refutes.before ++ Lemma [] refutes.hints ∷ refutes.behind) = rw refutes.is at refutes.all_pass in
    let front = each_lemma-front (LemmaPasses variables formula) [] refutes.before (Lemma [] refutes.hints ∷ refutes.behind) passes in
    let each = each_met values variables formula [] refutes.before front (each_from (IsMet values variables) (all_live formula) (met_at values variables formula model within)) in
    let empty = each_lemma-at (LemmaPasses variables formula) [] refutes.before [] refutes.hints refutes.behind passes in
    refuted values variables (clause_of (clauses_after formula refutes.before)) each [] refutes.hints (λ literal member. absurd (omega (arith, member.1))) empty.refuted
