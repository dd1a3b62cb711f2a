-- Adding clauses to a formula part by part.
use Rattle.std.proofs.Common.{◌≡◌, ℕ, zero, suc, ◌<◌, ◌≤◌, ℤ, Some, length, drop, drop-cons, get_or, List, [], ◌∷◌, ◌++◌, Err, Ok, refl, sym, ap, ◌∙◌, subst, arith, append_assoc}
use Rattle.std.specs.Bool.{IsTrue}
use Rattle.std.specs.Prelude.{Result, slice_get}
use Rattle.std.proofs.lemmas.Bool.{and_parts}
use Rattle.std.proofs.lemmas.List.{append-nil}
use Rattle.clauses.specs.declared.cnf.Cnf.{Cnf}
use Rattle.clauses.specs.declared.flat.CnfFault.{CnfFault}
use Rattle.clauses.specs.Literals.{clause_within, clause_words, clauses_within}
use Rattle.gates_theory.proofs.Sizes.{words-append}
use Rattle.gates_formula.specs.Adding.{Adds}

abbrev pub Clauses : Type 0
Clauses = List (List ℤ)

-- of some clauses that are to be added, the rest is left
pub record AddsSoFar (old mid : Cnf) (rest all : List (List ℤ)) : Type 0 where
  pub variables : mid.variables ≡ old.variables
  pub left : mid.clauses ++ rest ≡ old.clauses ++ all

pub so_far-step : {A : Type 0} (old mid new : Cnf) (part rest all : Clauses) (value : A) → AddsSoFar old mid (part ++ rest) all → Adds mid new part (Ok value) → AddsSoFar old new rest all
so_far-step old mid new part rest all value sofar added = record {
  variables = added.variables ∙ sofar.variables;
  left = ap (λ c. c ++ rest) added.ok ∙ append_assoc mid.clauses part rest ∙ sofar.left;
}

pub so_far-err : {A B : Type 0} (old mid new : Cnf) (part rest all : Clauses) (fault : CnfFault) → AddsSoFar old mid (part ++ rest) all → Adds {A = A} mid new part (Err fault) → Adds {A = B} old new all (Err fault)
so_far-err {A} {B} old mid new part rest all fault sofar failed = record {
  variables = failed.variables ∙ sofar.variables;
  ok = tt;
  large = λ e. omega (arith, failed.large e, ap clause_words sofar.left, words-append mid.clauses (part ++ rest), words-append part rest, words-append old.clauses all);
}

pub so_far-end : {A : Type 0} (old mid : Cnf) (all : Clauses) (value : A) → AddsSoFar old mid [] all → Adds old mid all (Ok value)
so_far-end old mid all value sofar = record { variables = sofar.variables; ok = sym (append-nil mid.clauses) ∙ sofar.left; large = tt }

-- nothing is added
pub adds-none : {A : Type 0} (old : Cnf) (value : A) → Adds old old [] (Ok value)
adds-none old value = record { variables = refl; ok = sym (append-nil old.clauses); large = tt }

-- clauses behind those that were added
pub adds-then : {A B : Type 0} (old mid new : Cnf) (first more : Clauses) (value : A) (result : Result B CnfFault) → Adds old mid first (Ok value) → Adds mid new more result → Adds old new (first ++ more) result
adds-then old mid new first more value (Ok other) added then = record {
  variables = then.variables ∙ added.variables;
  ok = then.ok ∙ ap (λ c. c ++ more) added.ok ∙ append_assoc old.clauses first more;
  large = tt;
}
adds-then old mid new first more value (Err fault) added then = record {
  variables = then.variables ∙ added.variables;
  ok = tt;
  large = λ e. omega (arith, then.large e, ap clause_words added.ok, words-append old.clauses first, words-append first more);
}

-- where a part could not be added, the whole could not that has no fewer words
pub adds-late : {A B : Type 0} (old new : Cnf) (part all : Clauses) (fault : CnfFault) → clause_words part ≤ clause_words all → Adds {A = A} old new part (Err fault) → Adds {A = B} old new all (Err fault)
adds-late {A} {B} old new part all fault more failed = record {
  variables = failed.variables;
  ok = tt;
  large = λ e. omega (arith, failed.large e, more);
}

pub adds-first : {A B : Type 0} (old new : Cnf) (first more : Clauses) (fault : CnfFault) → Adds {A = A} old new first (Err fault) → Adds {A = B} old new (first ++ more) (Err fault)
adds-first {A} {B} old new first more fault failed = adds-late {A = A} {B = B} old new first (first ++ more) fault (omega (arith, words-append first more)) failed

-- the first of the members that are left
pub left-at : {X : Type 0} (xs : List X) (i : ℕ) (x : X) → slice_get xs i ≡ Some x → drop i xs ≡ x ∷ drop (suc i) xs
left-at [] i x found = cc
left-at (y ∷ xs) zero x found = let same : y ≡ x = cc in ap (λ z. z ∷ xs) same
left-at (y ∷ xs) (suc i) x found = left-at xs i x found

pub left-within : (n : ℕ) (clauses : Clauses) (i : ℕ) (clause : List ℤ) → slice_get clauses i ≡ Some clause → IsTrue (clauses_within n (drop i clauses)) →
    IsTrue (clause_within n clause) × IsTrue (clauses_within n (drop (suc i) clauses))
left-within n clauses i clause found within =
    and_parts (clause_within n clause) (clauses_within n (drop (suc i) clauses)) (subst (λ (left : Clauses). IsTrue (clauses_within n left)) (left-at clauses i clause found) within)

pub clause-within : (n : ℕ) (clauses : Clauses) (i : ℕ) (clause : List ℤ) → slice_get clauses i ≡ Some clause → IsTrue (clauses_within n clauses) → IsTrue (clause_within n clause)
clause-within n [] i clause found within = cc
clause-within n (c ∷ clauses) zero clause found within =
    let same : c ≡ clause = cc in subst (λ (l : List ℤ). IsTrue (clause_within n l)) same (and_parts (clause_within n c) (clauses_within n clauses) within).0
clause-within n (c ∷ clauses) (suc i) clause found within = clause-within n clauses i clause found (and_parts (clause_within n c) (clauses_within n clauses) within).1

pub item-at : {X : Type 0} (xs : List X) (i : ℕ) (x : X) → i < length xs → x ≡ get_or xs i x → drop i xs ≡ x ∷ drop (suc i) xs
item-at xs i x below is = drop-cons xs i x below ∙ ap (λ y. y ∷ drop (suc i) xs) (sym is)

pub item-within : (n : ℕ) (clauses : Clauses) (i : ℕ) (clause : List ℤ) → i < length clauses → clause ≡ get_or clauses i clause → IsTrue (clauses_within n (drop i clauses)) →
    IsTrue (clause_within n clause) × IsTrue (clauses_within n (drop (suc i) clauses))
item-within n clauses i clause below is within =
    and_parts (clause_within n clause) (clauses_within n (drop (suc i) clauses)) (subst (λ (left : Clauses). IsTrue (clauses_within n left)) (item-at clauses i clause below is) within)
