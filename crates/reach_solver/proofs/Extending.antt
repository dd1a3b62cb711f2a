-- An assignment that is extended to selectors: each has the value of its clause. Then all clauses with selectors hold,
-- whatever the assignment.
use Rattle.std.proofs.Common.{◌≡◌, refl, sym, ap, ◌∙◌, ℕ, suc, ◌+◌, ◌-◌, ℤ, negsuc, Bool as Truth, true, false, not, cond, ◌||◌, List, [], ◌∷◌, ◌++◌, length, append_assoc, arith}
use Rattle.std.specs.Prelude.{IsTrue, nat_le, slice_get, slice_index_or, Some}
use Rattle.std.proofs.lemmas.Option.{get_or_from_slice_get, slice_get_within}
use Rattle.std.specs.List.{All, Contains, list_all}
use Rattle.std.proofs.Math.Seq.{get_or-append_seam}
use Rattle.std.proofs.lemmas.Bool.{and_from, and_parts}
use Rattle.std.proofs.lemmas.List.{length-append}
use Rattle.std.proofs.lemmas.List.Elements.{All-cons, All-contains, All-nil}
use Rattle.std.proofs.lemmas.List.Folds.{list_all-append, list_any-append}
use Rattle.clauses.specs.Literals.{clause_within, clauses_within}
use Rattle.clauses.specs.Models.{Assignment, is_true, meets, IsModel}
use Rattle.gates_theory.proofs.Agreement.{same-meets, same-met}
use Rattle.gates_theory.specs.Circuits.{AreSame}
use Rattle.reach_solver.specs.Solvers.{selected}

-- a model meets each of the clauses
pub each-met : (values : Assignment) (clauses : List (List ℤ)) → IsModel values clauses → All (λ clause. IsTrue (meets values clause)) clauses
each-met values [] model = All-nil (λ (clause : List ℤ). IsTrue (meets values clause))
each-met values (clause ∷ clauses) model =
    let parts = and_parts (meets values clause) (list_all (meets values) clauses) model in
    All-cons (λ (c : List ℤ). IsTrue (meets values c)) clause clauses parts.0 (each-met values clauses parts.1)

pub met-by : (values : Assignment) (clauses : List (List ℤ)) (clause : List ℤ) → IsModel values clauses → Contains clauses clause
    → IsTrue (meets values clause)
met-by values clauses clause model has =
    All-contains (λ (c : List ℤ). IsTrue (meets values c)) clauses clause (each-met values clauses model) has

module _ (variables : ℕ) (chosen : List (List ℤ)) (values : Assignment) where
  abbrev pub extended : Assignment
  extended n = cond (nat_le n variables) (values n) (meets values (slice_index_or chosen (n - suc variables) []))

  pub same : AreSame variables extended values
  same n some fits = let is : nat_le n variables ≡ true = grind arith in rw is

  pub at : (place : ℕ) → extended (suc (variables + place)) ≡ meets values (slice_index_or chosen place [])
  at place =
      let is : nat_le (suc (variables + place)) variables ≡ false = grind arith in
      let e : suc (variables + place) - suc variables ≡ place = omega arith in
      rw (is, e)

  -- a clause with its selector
  pub guarded-met : (clause : List ℤ) (before : ℕ) → IsTrue (clause_within variables clause)
      → extended (suc before) ≡ meets values clause → IsTrue (meets extended (clause ++ negsuc before ∷ []))
  guarded-met clause before within value =
      let front = list_any-append (is_true extended) clause (negsuc before ∷ []) in
      let clause_is = same-meets variables extended values same clause within in
      front ∙ whole (meets extended clause) (meets values clause) (extended (suc before)) clause_is value
    where
      whole : (a b c : Truth) → a ≡ b → c ≡ b → IsTrue (a || (not c || false))
      whole true b c e f = refl
      whole false b true e f = e ∙ sym f
      whole false b false e f = refl

  pub selected-met : (done rest : List (List ℤ)) → chosen ≡ done ++ rest → (before : ℕ) → before ≡ variables + length done
      → IsTrue (clauses_within variables rest) → IsTrue (list_all (meets extended) (selected before rest))
  selected-met done [] e before is within = refl
  selected-met done (clause ∷ rest) e before is within =
      let parts = and_parts (clause_within variables clause) (clauses_within variables rest) within in
      let here : slice_index_or chosen (length done) [] ≡ clause =
      ap (λ (cs : List (List ℤ)). slice_index_or cs (length done) []) e ∙ get_or-append_seam done clause rest [] in
      let value : extended (suc before) ≡ meets values clause =
      ap (λ (n : ℕ). extended (suc n)) is ∙ at (length done) ∙ ap (meets values) here in
      and_from (meets extended (clause ++ negsuc before ∷ [])) (list_all (meets extended) (selected (suc before) rest))
      (guarded-met clause before parts.0 value)
      (selected-met (done ++ clause ∷ []) rest (e ∙ sym (append_assoc done (clause ∷ []) rest)) (suc before)
      (omega (arith, is, length-append done (clause ∷ []))) parts.1)

  -- a model of the formula is extended to one of all clauses
  pub all-met : (formula : List (List ℤ)) → IsTrue (clauses_within variables formula) → IsTrue (clauses_within variables chosen)
      → IsModel values formula → IsModel extended (formula ++ selected variables chosen)
  all-met formula within also model =
      list_all-append (meets extended) formula (selected variables chosen)
      ∙ and_from (list_all (meets extended) formula) (list_all (meets extended) (selected variables chosen))
      (same-met variables extended values same formula within ∙ model)
      (selected-met [] chosen refl variables (omega arith) also)

pub each-within : (variables : ℕ) (clauses : List (List ℤ)) (clause : List ℤ) → IsTrue (clauses_within variables clauses)
    → Contains clauses clause → IsTrue (clause_within variables clause)
each-within variables clauses clause within has =
    All-contains (λ (c : List ℤ). IsTrue (clause_within variables c)) clauses clause (every clauses within) has
  where
    every : (cs : List (List ℤ)) → IsTrue (clauses_within variables cs) → All (λ c. IsTrue (clause_within variables c)) cs
    every [] all = All-nil (λ (c : List ℤ). IsTrue (clause_within variables c))
    every (c ∷ cs) all =
        let parts = and_parts (clause_within variables c) (clauses_within variables cs) all in
        All-cons (λ (x : List ℤ). IsTrue (clause_within variables x)) c cs parts.0 (every cs parts.1)

-- a clause at a place is among the clauses
pub contains-at : (clauses : List (List ℤ)) (place : ℕ) (clause : List ℤ) → slice_get clauses place ≡ Some clause
    → Contains clauses clause
contains-at clauses place clause has = (
  place,
  slice_get_within clauses place clause has,
  get_or_from_slice_get clauses place clause clause has,
)
