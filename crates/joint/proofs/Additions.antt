-- Clauses that are left to be added, and where a formula of several parts is too large.
use Rattle.std.proofs.Common.{◌≡◌, inl, inr, refl, ap, ◌∙◌, ℕ, zero, suc, ◌+◌, ◌<◌, ℤ, neg_ℤ, List, [], ◌∷◌, ◌++◌, map, drop, Some, arith}
use Rattle.std.specs.Prelude.{slice_get, IsTrue}
use Rattle.clauses.specs.declared.flat.TheConstants.{MOST_WORDS}
use Rattle.clauses.specs.Literals.{clause_within, clause_words, is_within}
use Rattle.gates_theory.specs.Sizes.{IsTooLarge}
use Rattle.gates_theory.proofs.Sizes.{words-append}
use Rattle.gates_theory.proofs.Within.{negated_within}
use Rattle.joint_theory.proofs.Parts.{all-weaker, map-parts}

abbrev pub Clauses : Type 0
Clauses = List (List ℤ)

-- the first clause that is left
pub clauses-drop : (clauses : Clauses) (i : ℕ) (clause : List ℤ) → slice_get clauses i ≡ Some clause → drop i clauses ≡ (clause ∷ []) ++ drop (suc i) clauses
clauses-drop [] i clause here = cc
clauses-drop (first ∷ clauses) zero clause here =
    let is : first ≡ clause = cc in
    rw is refl
clauses-drop (first ∷ clauses) (suc i) clause here = clauses-drop clauses i clause here

-- the negations of literals
pub opposite-within : (variables : ℕ) (clause : List ℤ) → IsTrue (clause_within variables clause) → IsTrue (clause_within variables (map neg_ℤ clause))
opposite-within variables clause within =
    map-parts (is_within variables) neg_ℤ clause
    ∙ all-weaker (is_within variables) (λ literal. is_within variables (neg_ℤ literal)) (negated_within variables) clause within

-- a formula whose front is too large
pub large-front : (variables same : ℕ) (all front back : Clauses) → same ≡ variables → all ≡ front ++ back → IsTooLarge same front → IsTooLarge variables all
large-front variables same all front back e is (inl many) = inl (omega (arith, e, many))
large-front variables same all front back e is (inr words) = inr (omega (arith, words, ap clause_words is, words-append front back))

-- and one where a part is too large that is added to its front
pub large-last : (variables : ℕ) (all old front last : Clauses) → all ≡ front ++ last → old ≡ front → MOST_WORDS < clause_words old + clause_words last
    → IsTooLarge variables all
large-last variables all old front last is same words = inr (omega (arith, words, ap clause_words is, ap clause_words same, words-append front last))
