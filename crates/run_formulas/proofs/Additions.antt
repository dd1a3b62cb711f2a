-- Adding clauses to a formula part by part.
use Rattle.std.proofs.Common.{◌≡◌, ℕ, zero, suc, ◌+◌, ◌*◌, ◌<◌, ◌≤◌, ℤ, pos, List, [], ◌∷◌, ◌++◌, length, map, drop, get_or, Err, Ok, refl, sym, ap, ◌∙◌, arith, append_assoc}
use Rattle.std.specs.Prelude.{Result}
use Rattle.std.specs.Bool.{IsTrue}
use Rattle.std.specs.List.{range_with_len}
use Rattle.std.proofs.lemmas.Bool.{and_from}
use Rattle.std.proofs.lemmas.List.{append-nil}
use Rattle.std.proofs.Math.Nat.{mul-le-mul_right}
use Rattle.clauses.specs.declared.cnf.Cnf.{Cnf}
use Rattle.clauses.specs.declared.flat.CnfFault.{CnfFault}
use Rattle.clauses.specs.Literals.{clause_within, clause_words, is_within}
use Rattle.gates_theory.specs.Distinct.{following}
use Rattle.gates_theory.specs.Unrolled.{moved, units}
use Rattle.gates_theory.proofs.Literals.{within_from}
use Rattle.gates_theory.proofs.Sizes.{words-append}
use Rattle.run_formulas.specs.Adding.{Adds}

abbrev pub Clauses : Type 0
Clauses = List (List ℤ)

-- of some clauses that are to be added, the rest is left
pub record AddsSoFar (old mid : Cnf) (rest all : List (List ℤ)) : Type 0 where
  pub variables : mid.variables ≡ old.variables
  pub left : mid.clauses ++ rest ≡ old.clauses ++ all

pub so_far-init : (old : Cnf) (all : Clauses) → AddsSoFar old old all all
so_far-init old all = record { variables = refl; left = refl }

pub so_far-step : {A : Type 0} (old mid new : Cnf) (part rest all : Clauses) (value : A) → AddsSoFar old mid (part ++ rest) all → Adds mid new part (Ok value) → AddsSoFar old new rest all
so_far-step old mid new part rest all value sofar added = record {
  variables = added.variables ∙ sofar.variables;
  left = ap (λ c. c ++ rest) added.ok ∙ append_assoc mid.clauses part rest ∙ sofar.left;
}

pub so_far-err : {A B : Type 0} (old mid new : Cnf) (part rest all : Clauses) (fault : CnfFault) → AddsSoFar old mid (part ++ rest) all → Adds {A = A} mid new part (Err fault) → Adds {A = B} old new all (Err fault)
so_far-err {A} {B} old mid new part rest all fault sofar failed = record {
  variables = failed.variables ∙ sofar.variables;
  ok = tt;
  large = λ e. omega (arith, failed.large e, ap clause_words sofar.left, words-append mid.clauses (part ++ rest), words-append part rest, words-append old.clauses all);
}

pub so_far-end : {A : Type 0} (old mid : Cnf) (all : Clauses) (value : A) → AddsSoFar old mid [] all → Adds old mid all (Ok value)
so_far-end old mid all value sofar = record { variables = sofar.variables; ok = sym (append-nil mid.clauses) ∙ sofar.left; large = tt }

-- clauses behind those that were added
pub adds-then : {A B : Type 0} (old mid new : Cnf) (first more : Clauses) (value : A) (result : Result B CnfFault) → Adds old mid first (Ok value) → Adds mid new more result → Adds old new (first ++ more) result
adds-then old mid new first more value (Ok other) added then = record {
  variables = then.variables ∙ added.variables;
  ok = then.ok ∙ ap (λ c. c ++ more) added.ok ∙ append_assoc old.clauses first more;
  large = tt;
}
adds-then old mid new first more value (Err fault) added then = record {
  variables = then.variables ∙ added.variables;
  ok = tt;
  large = λ e. omega (arith, then.large e, ap clause_words added.ok, words-append old.clauses first, words-append first more);
}

-- where a part could not be added, the whole could not
pub adds-late : {A B : Type 0} (old new : Cnf) (first more : Clauses) (fault : CnfFault) → Adds {A = A} old new first (Err fault) → Adds {A = B} old new (first ++ more) (Err fault)
adds-late {A} {B} old new first more fault failed = record {
  variables = failed.variables;
  ok = tt;
  large = λ e. omega (arith, failed.large e, words-append first more);
}

-- one more of the variables that follow
pub following-next : (variables count : ℕ) → following variables (suc count) ≡ following variables count ++ pos (suc (variables + count)) ∷ []
following-next variables zero = let e : variables ≡ variables + zero = omega arith in ap (λ k. pos (suc k) ∷ []) e
following-next variables (suc count) =
    let e : suc variables + count ≡ variables + suc count = omega arith in
    ap (λ rest. pos (suc variables) ∷ rest) (following-next (suc variables) count ∙ ap (λ k. following (suc variables) count ++ pos (suc k) ∷ []) e)

-- the first of the literals that are left
pub units-drop : (base : ℕ) (literals : List ℤ) (i : ℕ) → i < length literals
    → units base (drop i literals) ≡ (moved base (get_or literals i (pos 0)) ∷ []) ∷ units base (drop (suc i) literals)
units-drop base [] i below = absurd (omega arith)
units-drop base (literal ∷ literals) zero below = refl
units-drop base (literal ∷ literals) (suc i) below = units-drop base literals i (omega arith)

-- literals of a variable at positions
pub row-within : (n : ℕ) (literal : ℕ → ℤ) (first count : ℕ) → ((i : ℕ) → i < first + count → IsTrue (is_within n (literal i)))
    → IsTrue (clause_within n (map literal (range_with_len first count)))
row-within n literal first zero each = refl
row-within n literal first (suc count) each =
    and_from (is_within n (literal first)) (clause_within n (map literal (range_with_len (first + 1) count)))
    (each first (omega arith)) (row-within n literal (first + 1) count (λ i low. each i (omega arith)))

pub higher-within : (n size positions variable i : ℕ) → 0 < variable → variable ≤ size → positions * size ≤ n → i < positions
    → IsTrue (is_within n (moved (i * size) (pos variable)))
higher-within n size positions variable i some few fits below =
    let e : suc i * size ≤ positions * size = mul-le-mul_right size below in
    within_from n (moved (i * size) (pos variable)) (omega arith) (omega (arith, e))

pub higher-below : (size positions variable i : ℕ) → variable ≤ size → i < positions → i * size + variable ≤ positions * size
higher-below size positions variable i few below = let e : suc i * size ≤ positions * size = mul-le-mul_right size below in omega (arith, e)
