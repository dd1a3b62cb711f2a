-- The parts of the formulas of a window.
use Rattle.std.proofs.Common.{◌≡◌, ℕ, suc, ◌+◌, ◌-◌, ◌*◌, ◌<◌, ◌≤◌, ℤ, List, [], ◌∷◌, ◌++◌, map, ap, arith, mul-le-mul_right, suc-mul}
use Rattle.std.specs.List.{range_with_len}
use Rattle.clauses.specs.declared.flat.TheConstants.{MOST_WORDS}
use Rattle.clauses.specs.Literals.{clause_words}
use Rattle.gates_theory.proofs.Sizes.{words-append}

-- the first of the numbers that are left
pub number-next : (f : ℕ → List ℤ) (n i : ℕ) → i < n → map f (range_with_len i (n - i)) ≡ (f i ∷ []) ++ map f (range_with_len (i + 1) (n - (i + 1)))
number-next f n i below = let e : n - i ≡ suc (n - (i + 1)) = omega arith in ap (λ k. map f (range_with_len i k)) e

-- a variable of a position
pub position-fits : (size bad window position all : ℕ) → bad ≤ size → position < window → window * size ≤ all → position * size + bad ≤ all
position-fits size bad window position all few below fits =
    let order : suc position ≤ window = omega arith in omega (arith, mul-le-mul_right size order, suc-mul position size)

abbrev pub Clauses : Type 0
Clauses = List (List ℤ)

-- where a part is too many words, so is the whole
pub late-second : (mid held first second : Clauses) → mid ≡ held ++ first → MOST_WORDS < clause_words mid + clause_words second → MOST_WORDS < clause_words (held ++ first ++ second)
late-second mid held first second is large = omega (arith, large, ap clause_words is, words-append held first, words-append (held ++ first) second)

pub late-first_of : (mid held first second third : Clauses) → mid ≡ held → MOST_WORDS < clause_words mid + clause_words first → MOST_WORDS < clause_words (held ++ first ++ second ++ third)
late-first_of mid held first second third is large =
    omega (arith, large, ap clause_words is, words-append held first, words-append (held ++ first) second, words-append (held ++ first ++ second) third)

pub late-second_of : (mid held first second third : Clauses) → mid ≡ held ++ first → MOST_WORDS < clause_words mid + clause_words second → MOST_WORDS < clause_words (held ++ first ++ second ++ third)
late-second_of mid held first second third is large =
    omega (arith, large, ap clause_words is, words-append held first, words-append (held ++ first) second, words-append (held ++ first ++ second) third)
