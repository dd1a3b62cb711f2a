-- Which variables the clauses have that say that some clause is missed, and how many words.
use Rattle.std.proofs.Common.{◌≡◌, refl, ap, ℕ, zero, suc, ◌+◌, ◌*◌, ◌<◌, ◌≤◌, ℤ, negsuc, neg_ℤ, true, List, [], ◌∷◌, length, arith}
use Rattle.std.specs.Bool.{IsTrue}
use Rattle.std.specs.List.{sum_by}
use Rattle.std.proofs.lemmas.Bool.{and_from, and_parts}
use Rattle.std.proofs.lemmas.List.Sums.{sum_by-cons}
use Rattle.clauses.specs.Literals.{clause_within, clause_words, clauses_within, is_within}
use Rattle.gates_theory.specs.Distinct.{following}
use Rattle.gates_theory.specs.Unrolled.{moved}
use Rattle.gates_theory.proofs.Literals.{within_from}
use Rattle.gates_theory.proofs.Sizes.{words-append, words-cons}
use Rattle.gates_theory.proofs.Within.{both_within, following-within, moved_within, negated_within}
use Rattle.joint_selectors.specs.Missed.{each_missed, missed, missed_words, some_missed}

-- literals

module _ (n size base : ℕ) (fits : base + size ≤ n) where
  missed-within : (before : ℕ) (clause : List ℤ) → before < n → IsTrue (clause_within size clause) → IsTrue (clauses_within n (missed base before clause))
  missed-within before [] below within = refl
  missed-within before (literal ∷ literals) below within =
      let parts = and_parts (is_within size literal) (clause_within size literals) within in
      and_from (clause_within n (negsuc before ∷ neg_ℤ (moved base literal) ∷ [])) (clauses_within n (missed base before literals))
      (and_from (is_within n (negsuc before)) (clause_within n (neg_ℤ (moved base literal) ∷ []))
      (within_from n (negsuc before) (omega arith) (omega arith))
      (and_from (is_within n (neg_ℤ (moved base literal))) true
      (negated_within n (moved base literal) (moved_within size base n literal parts.0 fits)) refl))
      (missed-within before literals below parts.1)

  each-within : (before : ℕ) (clauses : List (List ℤ)) → before + length clauses ≤ n → IsTrue (clauses_within size clauses)
      → IsTrue (clauses_within n (each_missed base before clauses))
  each-within before [] all within = refl
  each-within before (clause ∷ clauses) all within =
      let parts = and_parts (clause_within size clause) (clauses_within size clauses) within in
      both_within n (missed base before clause) (each_missed base (suc before) clauses)
      (missed-within before clause (omega arith) parts.0) (each-within (suc before) clauses (omega arith) parts.1)

pub some-within : (size base before : ℕ) (clauses : List (List ℤ)) → base + size ≤ before → IsTrue (clauses_within size clauses)
    → IsTrue (clauses_within (before + length clauses) (some_missed base before clauses))
some-within size base before clauses fits within =
    let n = before + length clauses in
    both_within n (each_missed base before clauses) (following before (length clauses) ∷ [])
    (each-within n size base (omega arith) before clauses (omega arith) within)
    (and_from (clause_within n (following before (length clauses))) true (following-within n before (length clauses) (omega arith)) refl)

-- words

missed-words : (base before : ℕ) (clause : List ℤ) → clause_words (missed base before clause) ≡ 3 * length clause
missed-words base before [] = refl
missed-words base before (literal ∷ literals) =
    omega (
      arith,
      words-cons (negsuc before ∷ neg_ℤ (moved base literal) ∷ []) (missed base before literals),
      missed-words base before literals,
    )

each-words : (base before : ℕ) (clauses : List (List ℤ)) → clause_words (each_missed base before clauses) ≡ 3 * sum_by length clauses
each-words base before [] = refl
each-words base before (clause ∷ clauses) =
    omega (
      arith,
      words-append (missed base before clause) (each_missed base (suc before) clauses),
      missed-words base before clause,
      each-words base (suc before) clauses,
      sum_by-cons length clause clauses,
    )

following-length : (before count : ℕ) → length (following before count) ≡ count
following-length before zero = refl
following-length before (suc count) = ap suc (following-length (suc before) count)

pub some-words : (base before : ℕ) (clauses : List (List ℤ)) → clause_words (some_missed base before clauses) ≡ missed_words clauses
some-words base before clauses =
    omega (
      arith,
      words-append (each_missed base before clauses) (following before (length clauses) ∷ []),
      each-words base before clauses,
      words-cons (following before (length clauses)) [],
      following-length before (length clauses),
    )
