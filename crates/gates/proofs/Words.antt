-- How many words lists of clauses have, as they are counted.
use Rattle.std.proofs.Common.{◌≡◌, inl, inr, ℕ, zero, suc, ◌+◌, ◌-◌, ◌*◌, ◌/◌, ◌<◌, ◌≤◌, ℤ, List, length, ◌++◌, refl, arith, suc-mul, mul-suc, mul-le-mul_right, mul-add, mul-one}
use Rattle.std.proofs.lemmas.Bool.{cases_lt}
use Rattle.clauses.specs.declared.flat.TheConstants.{MOST_VARIABLES, MOST_WORDS}
use Rattle.clauses.specs.Literals.{clause_words}
use Rattle.gates_theory.specs.declared.circuit.Circuit.{Circuit}
use Rattle.gates_theory.specs.Unrolled.{up_to}
use Rattle.gates_theory.specs.Distinct.{pairs, distinct}
use Rattle.gates_theory.proofs.Sizes.{words-append, distinct-words}
use Rattle.gates.specs.Adding.{FitsWith}

-- fewer lists have no more words
pub words-up : (list : ℕ → List (List ℤ)) (few more : ℕ) → few ≤ more → clause_words (up_to few list) ≤ clause_words (up_to more list)
words-up list few zero order = let e : few ≡ 0 = omega arith in rw e (omega arith)
words-up list few (suc more) order = elim (cases_lt few (suc more)) [
  | inl below ↦ omega (arith, words-up list few more (omega arith), words-append (up_to more list) (list more))
  | inr above ↦ let e : few ≡ suc more = omega arith in rw e (omega arith)
]

pub fits-next : (list : ℕ → List (List ℤ)) (count i : ℕ) → i < count → clause_words (up_to count list) ≤ MOST_WORDS → FitsWith (up_to i list) (list i)
fits-next list count i below few = record { few = omega (arith, few, words-up list (suc i) count below) }

pub variables-next : (size count i : ℕ) → i < count → count * size ≤ MOST_VARIABLES → suc i * size ≤ MOST_VARIABLES
variables-next size count i below few = omega (arith, mul-le-mul_right size below)

-- pairs
twice_pairs : (n : ℕ) → 2 * pairs (suc n) ≡ suc n * n
twice_pairs zero = refl
twice_pairs (suc n) = omega (arith, twice_pairs n, suc-mul (suc n) (suc n), mul-suc (suc n) n)

pub pairs-half : (n : ℕ) → n * (n - 1) / 2 ≡ pairs n
pairs-half zero = refl
pairs-half (suc n) =
    let e : suc n - 1 ≡ n = omega arith in
    rw e (omega (arith, twice_pairs n))

-- the words with those that states are different
pub distinct-total : (c : Circuit) (clauses : List (List ℤ)) (variables positions : ℕ) →
    clause_words (clauses ++ distinct c variables positions) ≡ clause_words clauses + (9 * (pairs positions * length c.now) + pairs positions)
distinct-total c clauses variables positions =
    let p = pairs positions in
    let s = length c.now in
    omega (arith, words-append clauses (distinct c variables positions), distinct-words c variables positions, mul-add p (9 * s) 1, mul-one p, nine p s)
  where
    nine : (p s : ℕ) → p * (9 * s) ≡ 9 * (p * s)
    nine p s = grind arith
