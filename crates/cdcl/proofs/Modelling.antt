-- The values along a trail on which each variable has one are a model.
use Rattle.std.proofs.Common.{◌≡◌, ◌≢◌, ℕ, zero, suc, ◌+◌, ◌-◌, ◌*◌, ◌/◌, ◌%◌, ◌<◌, ℤ, Bool, true, false, not, cond, leb, List, [], ◌∷◌, ◌++◌, length, map, set, get_or, slice_get, Option, Some, None, ◌⊎◌, ◌↔◌, inl, inr, refl, sym, ap, ◌∙◌, arith, below_more}
use Rattle.std.specs.Option.{option_map}
use Rattle.std.specs.List.{All, Contains, list_all}
use Rattle.std.proofs.lemmas.Bool.{cases_eq, leb-false, and_from}
use Rattle.std.proofs.lemmas.List.{get_or_append_left, get_or_push, get_or-set_other}
use Rattle.std.proofs.lemmas.List.Elements.{All-contains}
use Rattle.std.proofs.lemmas.List.Folds.{list_any_at}
use Rattle.clauses.specs.declared.cnf.Cnf.{Cnf}
use Rattle.clauses.specs.Live.{Numbered, clause_of, all_live, without}
use Rattle.clauses.specs.Models.{Assignment, is_true, meets}
use Rattle.clauses.specs.Passing.{IsOpen}
use Rattle.clauses.specs.Logs.{LogEntry, after_all, clauses_after}
use Rattle.clauses.specs.Logs.LogEntry.{Lemma, Forget}
use Rattle.cdcl_trail.specs.Literals.{opposite, signed}
use Rattle.cdcl_trail.specs.Path.{Path, IsPath}
use Rattle.cdcl_propagation.specs.State.{State, IsSettled}
use Rattle.cdcl_conflict_theory.proofs.Members.{contains-map}
use Rattle.cdcl.specs.Answers.{values_of, IsModelOf}
use Rattle.cdcl.specs.Solving.{signed_clauses}
use Rattle.cdcl.specs.Turns.{IsComplete, IsSolved, AreValues}
use Rattle.cdcl.proofs.Logging.{renames}

-- a value more
pub values_push : (P : ℕ → Type 0) (values : List Bool) (value : Bool) (end : ℕ) → length values ≡ end → ((variable : ℕ) → variable < end → (get_or values variable false ≡ true) ↔ P variable)
    → (value ≡ true) ↔ P end → (variable : ℕ) → variable < end + 1 → (get_or (values ++ value ∷ []) variable false ≡ true) ↔ P variable
values_push P values value end size each here =
    below_more (λ variable. (get_or (values ++ value ∷ []) variable false ≡ true) ↔ P variable) end
    (λ variable below. rw (get_or_append_left values (value ∷ []) false variable (omega arith)) (each variable below))
    (rw (get_or_push values value false end size) here)

-- the clauses of the formula stay
some_within : {X : Type 0} (xs : List (Option X)) (place : ℕ) (x : X) → get_or xs place None ≡ Some x → place < length xs
some_within [] place x at = cc
some_within (first ∷ xs) zero x at = omega arith
some_within (first ∷ xs) (suc place) x at = let rest = some_within xs place x at in omega arith

stays_without : (size number : ℕ) (clauses : Numbered ℤ) (place : ℕ) (clause : List ℤ) (kept : Bool) → leb number size ≡ kept → place < size → get_or clauses place None ≡ Some clause
    → get_or (cond kept clauses (set clauses (number - 1) None)) place None ≡ Some clause
stays_without size number clauses place clause true is below at = at
stays_without size number clauses place clause false is below at =
    let past = leb-false number size is in
    let other : place ≢ number - 1 = omega arith in
    rw get_or-set_other at

stays : (size : ℕ) (clauses : Numbered ℤ) (log : List LogEntry) (place : ℕ) (clause : List ℤ) → place < size → get_or clauses place None ≡ Some clause → get_or (after_all size clauses log) place None ≡ Some clause
stays size clauses [] place clause below at = at
stays size clauses (Lemma literals hints ∷ log) place clause below at =
    stays size (clauses ++ Some literals ∷ []) log place clause below
    (get_or_append_left clauses (Some literals ∷ []) None place (some_within clauses place clause at) ∙ at)
stays size clauses (Forget number ∷ log) place clause below at =
    stays size (without size number clauses) log place clause below (stays_without size number clauses place clause (leb number size) refl below at)

formula_at : (formula : List (List ℤ)) (place : ℕ) (clause : List ℤ) → slice_get formula place ≡ Some clause → (get_or (all_live formula) place None ≡ Some clause) × (place < length formula)
formula_at [] place clause at = cc
formula_at (first ∷ formula) zero clause at = (at, omega arith)
formula_at (first ∷ formula) (suc place) clause at = let rest = formula_at formula place clause at in (rest.0, omega (arith, rest.1))

pub formula_live : (formula : List (List ℤ)) (log : List LogEntry) (place : ℕ) (clause : List ℤ) → slice_get formula place ≡ Some clause → clause_of (clauses_after formula log) (suc place) ≡ Some clause
formula_live formula log place clause at =
    let first = formula_at formula place clause at in
    stays (length formula) (all_live formula) log place clause first.1 first.0

-- what stands for a clause
pub stands_for : (was : Option (List ℕ)) (clause : List ℤ) → option_map (map signed) was ≡ Some clause → (old : List ℕ) × (was ≡ Some old) × (map signed old ≡ clause)
stands_for None clause is = cc
stands_for (Some old) clause is = (old, refl, cc)

-- a clause has a true literal
on_trail : (path : Path) (variables literal : ℕ) → IsComplete path variables → literal < 2 * variables → (Contains path.literals (opposite literal) → ⊥) → Contains path.literals literal
on_trail path variables literal complete within not_false =
    let two : (literal ≡ 2 * (literal / 2)) ⊎ (literal ≡ 2 * (literal / 2) + 1) =
    elim (cases_eq (literal % 2) 0) [ inl even ↦ inl (omega arith) | inr odd ↦ inr (omega arith) ] in
    elim (complete (literal / 2) (omega arith)) [
      | inl positive ↦
          elim two [
            | inl even ↦ rw even positive
            | inr odd ↦ let other : 2 * (literal / 2) ≡ opposite literal = omega arith in absurd (not_false (rw other at positive))
          ]
      | inr negative ↦
          elim two [
            | inl even ↦ let other : 2 * (literal / 2) + 1 ≡ opposite literal = omega arith in absurd (not_false (rw other at negative))
            | inr odd ↦ rw odd negative
          ]
    ]

true_literal : (path : Path) (variables : ℕ) (clause : List ℕ) → IsComplete path variables → All (λ literal. literal < 2 * variables) clause → IsOpen opposite path.literals clause → (literal : ℕ) × Contains clause literal × Contains path.literals literal
true_literal path variables clause complete within (inl found) = found
true_literal path variables clause complete within (inr two) =
    (two.0, two.2, on_trail path variables two.0 complete (All-contains (λ l. l < 2 * variables) clause two.0 within two.2) two.5)

-- a literal of the trail is true
value_false : (values : List Bool) (variable : ℕ) → (get_or values variable false ≡ true → ⊥) → not (get_or values variable false) ≡ true
value_false values variable never = by (get_or values variable false) refl
  where
    by : (value : Bool) → get_or values variable false ≡ value → not value ≡ true
    by true is = absurd (never is)
    by false is = refl

pub is_true_at : (path : Path) (variables : ℕ) (values : List Bool) (literal : ℕ) → IsPath path → AreValues path variables values → literal < 2 * variables → Contains path.literals literal → is_true (values_of values) (signed literal) ≡ true
is_true_at path variables values literal is are within there =
    let inside : literal / 2 < variables = omega arith in
    elim (cases_eq (literal % 2) 0) [
      | inl even ↦
          let same : 2 * (literal / 2) ≡ literal = omega arith in
          let held : get_or values (literal / 2) false ≡ true = (are.is (literal / 2) inside).1 (rw same there) in
          let place : suc (literal / 2) - 1 ≡ literal / 2 = omega arith in
          rw even (ap (λ p. get_or values p false) place ∙ held)
      | inr odd ↦
          let one : literal % 2 ≡ 1 = omega arith in
          let other : 2 * (literal / 2) ≡ opposite literal = omega arith in
          let place : suc (literal / 2) - 1 ≡ literal / 2 = omega arith in
          let never : get_or values (literal / 2) false ≡ true → ⊥ = λ held. is.consistent literal there (rw other at ((are.is (literal / 2) inside).0 held)) in
          rw one (ap (λ p. not (get_or values p false)) place ∙ value_false values (literal / 2) never)
    ]

pub meets_member : (values : Assignment) (clause : List ℤ) (literal : ℤ) → Contains clause literal → is_true values literal ≡ true → meets values clause ≡ true
meets_member values clause literal there holds = list_any_at (is_true values) clause there.0 literal there.1 (ap (is_true values) there.2 ∙ holds)

pub clause_met : (state : State) (variables : ℕ) (values : List Bool) (clause : List ℕ) → IsSettled state → IsSolved state variables → AreValues state.path variables values → All (λ literal. literal < 2 * variables) clause
    → IsOpen opposite state.path.literals clause → meets (values_of values) (map signed clause) ≡ true
clause_met state variables values clause settled solved are within open_ =
    let found = true_literal state.path variables clause solved.complete within open_ in
    let below = All-contains (λ l. l < 2 * variables) clause found.0 within found.1 in
    meets_member (values_of values) (map signed clause) (signed found.0) (contains-map signed clause found.0 found.1)
    (is_true_at state.path variables values found.0 settled.path are below found.2)

all_from : {X : Type 0} (test : X → Bool) (xs : List X) → ((place : ℕ) (x : X) → slice_get xs place ≡ Some x → test x ≡ true) → list_all test xs ≡ true
all_from test [] each = refl
all_from test (x ∷ xs) each = and_from (test x) (list_all test xs) (each 0 x refl) (all_from test xs (λ place y at. each (suc place) y at))

pub model_of : (cnf : Cnf) (state : State) (log : List LogEntry) (values : List Bool) → state.path.variables ≡ cnf.variables → signed_clauses state.clauses ≡ clauses_after cnf.clauses log
    → IsSettled state → IsSolved state cnf.variables → AreValues state.path cnf.variables values → IsModelOf cnf values
model_of cnf state log values variables clauses settled solved are = record {
  size = are.size;
  model = all_from (meets (values_of values)) cnf.clauses (λ place clause at.
      let live = formula_live cnf.clauses log place clause at in
      let was = stands_for (clause_of state.clauses (suc place)) clause (sym (renames state.clauses (clauses_after cnf.clauses log) clauses (suc place)) ∙ live) in
      ap (meets (values_of values)) (sym was.2)
      ∙ clause_met state cnf.variables values was.0 settled solved are (rw variables at (settled.within (suc place) was.0 was.1)) (settled.ended solved.head (suc place) was.0 was.1));
}
