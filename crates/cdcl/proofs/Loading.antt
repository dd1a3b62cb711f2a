-- The clauses of a formula, as they are taken over.
use Rattle.std.proofs.Common.{◌≡◌, ℕ, zero, suc, ◌+◌, ◌*◌, ◌<◌, ◌≤◌, ℤ, List, [], ◌∷◌, ◌++◌, length, map, take, get_or, slice_get, Option, Some, refl, sym, ap, ◌∙◌, subst, arith}
use Rattle.std.specs.Bool.{IsTrue}
use Rattle.std.specs.Option.{option_map}
use Rattle.std.specs.List.{All}
use Rattle.std.proofs.lemmas.Bool.{and_parts}
use Rattle.std.proofs.lemmas.List.{map_push, map_more, length_push, length-map}
use Rattle.std.proofs.lemmas.List.Sums.{sum_by-append, sum_by-cons, sum_by_more, sum_by_more_le}
use Rattle.clauses.specs.declared.cnf.Cnf.{Cnf}
use Rattle.clauses.specs.Literals.{clause_within, clauses_within, clause_words}
use Rattle.clauses.specs.Live.{Numbered, all_live}
use Rattle.clause_store.specs.Stored.{place_words, stored_words}
use Rattle.cdcl_trail.specs.Literals.{signed}
use Rattle.cdcl_propagation.specs.State.{State}
use Rattle.cdcl.specs.Solving.{signed_clauses}
use Rattle.cdcl.specs.Loading.{nothing_yet, IsLoading, IsFalseAt, IsFalseOn, CanAdd, IsAdded}

-- an item by its place
pub item_at : {X : Type 0} (xs : List X) (place : ℕ) (x d : X) → slice_get xs place ≡ Some x → get_or xs place d ≡ x
item_at [] place x d at = cc
item_at (first ∷ xs) zero x d at = cc
item_at (first ∷ xs) (suc place) x d at = item_at xs place x d at

-- a clause of a formula is within its variables
pub formula_within : (variables : ℕ) (formula : List (List ℤ)) (place : ℕ) (clause : List ℤ) → IsTrue (clauses_within variables formula) → slice_get formula place ≡ Some clause → IsTrue (clause_within variables clause)
formula_within variables [] place clause all at = cc
formula_within variables (first ∷ formula) zero clause all at =
    let same : first ≡ clause = cc in
    subst (λ (c : List ℤ). IsTrue (clause_within variables c)) same (and_parts (clause_within variables first) (clauses_within variables formula) all).0
formula_within variables (first ∷ formula) (suc place) clause all at =
    formula_within variables formula place clause (and_parts (clause_within variables first) (clauses_within variables formula) all).1 at

pub loading_none : (cnf : Cnf) → IsLoading cnf 0 (nothing_yet cnf.variables)
loading_none cnf = record { clauses_are = refl; numbers = refl; words = refl; variables = refl; limits = refl; head = refl }

-- the words with one clause more are no more than all
pub words_more : (formula : List (List ℤ)) (place : ℕ) → place < length formula → clause_words (take place formula) + (length (get_or formula place []) + 1) ≤ clause_words formula
words_more formula place within = sum_by_more_le (λ (c : List ℤ). length c + 1) formula place [] within

-- each clause has a word
pub size_few : (formula : List (List ℤ)) → length formula ≤ clause_words formula
size_few [] = omega arith
size_few (clause ∷ formula) = omega (arith, size_few formula, sum_by-cons (λ (c : List ℤ). length c + 1) clause formula)

pub place_few : (formula : List (List ℤ)) (place : ℕ) → place < length formula → place < clause_words formula
place_few formula place within = omega (arith, size_few formula, within)

pub can_add : (cnf : Cnf) (place : ℕ) (state : State) (clause : List ℕ) (original : List ℤ) → clause_words cnf.clauses ≤ 400000000 → place < length cnf.clauses → slice_get cnf.clauses place ≡ Some original
    → map signed clause ≡ original → All (λ literal. literal < 2 * cnf.variables) clause → IsLoading cnf place state → CanAdd state clause
can_add cnf place state clause original small within at same below loading =
    let size : length (get_or cnf.clauses place []) ≡ length clause = ap length (item_at cnf.clauses place original [] at ∙ sym same) ∙ length-map clause signed in
    record {
      limits = loading.limits;
      head = loading.head;
      within = rw loading.variables below;
      words = omega (arith, loading.words, words_more cnf.clauses place within);
      numbers = omega (arith, loading.numbers, place_few cnf.clauses place within);
    }

stored_push : (clauses : Numbered ℕ) (clause : Option (List ℕ)) → stored_words (clauses ++ clause ∷ []) ≡ stored_words clauses + place_words clause
stored_push clauses clause = omega (arith, sum_by-append place_words clauses (clause ∷ []), sum_by-cons place_words clause [])

pub signed_more : (cnf : Cnf) (place : ℕ) (clauses : Numbered ℕ) (clause : List ℕ) → place < length cnf.clauses → map signed clause ≡ get_or cnf.clauses place []
    → signed_clauses clauses ≡ all_live (take place cnf.clauses) → signed_clauses (clauses ++ Some clause ∷ []) ≡ all_live (take (place + 1) cnf.clauses)
signed_more cnf place clauses clause within same are =
    map_push (option_map (map signed)) clauses (Some clause)
    ∙ ap (λ (cs : Numbered ℤ). cs ++ Some (map signed clause) ∷ []) are
    ∙ ap (λ (c : List ℤ). all_live (take place cnf.clauses) ++ Some c ∷ []) same
    ∙ sym (map_more (λ (c : List ℤ). Some c) cnf.clauses place [] within)

pub loading_more : (cnf : Cnf) (place : ℕ) (state new : State) (clause : List ℕ) (original : List ℤ) → place < length cnf.clauses → slice_get cnf.clauses place ≡ Some original
    → map signed clause ≡ original → IsLoading cnf place state → IsAdded state clause new → IsLoading cnf (place + 1) new
loading_more cnf place state new clause original within at same loading added =
    let item = item_at cnf.clauses place original [] at in
    let size : length (get_or cnf.clauses place []) ≡ length clause = ap length (item ∙ sym same) ∙ length-map clause signed in
    record {
      clauses_are = ap signed_clauses added.clauses ∙ signed_more cnf place state.clauses clause within (same ∙ sym item) loading.clauses_are;
      numbers = omega (arith, ap length added.clauses, length_push state.clauses (Some clause), loading.numbers);
      words = omega (arith, ap stored_words added.clauses, stored_push state.clauses (Some clause), loading.words, sum_by_more (λ (c : List ℤ). length c + 1) cnf.clauses place [] within);
      variables = added.variables ∙ loading.variables;
      limits = added.limits;
      head = added.head;
    }

pub false_at : (cnf : Cnf) (place : ℕ) (state : State) (clause : List ℕ) (original : List ℤ) → place < length cnf.clauses → slice_get cnf.clauses place ≡ Some original → map signed clause ≡ original
    → IsFalseOn state.path.literals clause → IsFalseAt cnf state place
false_at cnf place state clause original within at same falses = record {
  within = within;
  clause = clause;
  is = same ∙ sym (item_at cnf.clauses place original [] at);
  false_ = falses;
}
