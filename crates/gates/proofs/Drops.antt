-- The first of what is left of a list, and the rest.
use Rattle.std.proofs.Common.{◌≡◌, ℕ, zero, suc, ◌+◌, ◌<◌, ℤ, pos, List, [], ◌∷◌, ◌++◌, length, drop, get_or, set, refl, sym, ap, ◌∙◌, arith}
use Rattle.std.specs.Bool.{IsTrue}
use Rattle.std.proofs.lemmas.Bool.{and_parts}
use Rattle.clauses.specs.Literals.{is_within, clause_within}
use Rattle.gates_theory.specs.Distinct.{difference, differences, following}
use Rattle.gates_theory.specs.Unrolled.{equality, links, moved}

pub links-drop : (base low : ℕ) (literals others : List ℤ) (i : ℕ) → i < length literals → length others ≡ length literals →
    links base low (drop i literals) (drop i others)
    ≡ equality (moved base (get_or literals i (pos 0))) (moved low (get_or others i (pos 0))) ++ links base low (drop (suc i) literals) (drop (suc i) others)
links-drop base low [] others i below each = absurd (omega arith)
links-drop base low (literal ∷ literals) [] i below each = absurd (omega arith)
links-drop base low (literal ∷ literals) (other ∷ others) zero below each = refl
links-drop base low (literal ∷ literals) (other ∷ others) (suc i) below each = links-drop base low literals others i (omega arith) (omega arith)

pub within-next : (variables : ℕ) (literals : List ℤ) (i : ℕ) → i < length literals → IsTrue (clause_within variables (drop i literals)) → IsTrue (clause_within variables (drop (suc i) literals))
within-next variables [] i below within = absurd (omega arith)
within-next variables (literal ∷ literals) zero below within = (and_parts (is_within variables literal) (clause_within variables literals) within).1
within-next variables (literal ∷ literals) (suc i) below within = within-next variables literals i (omega arith) within

-- one more of the variables that follow is written over what was there
pub following-set : (variables i : ℕ) (rest : List ℤ) → i < length rest →
    set (following variables i ++ drop i rest) i (pos (suc (variables + i))) ≡ following variables (suc i) ++ drop (suc i) rest
following-set variables zero [] below = absurd (omega arith)
following-set variables zero (old ∷ rest) below = let e : suc (variables + 0) ≡ suc variables = omega arith in ap (λ k. pos k ∷ rest) e
following-set variables (suc i) [] below = absurd (omega arith)
following-set variables (suc i) (old ∷ rest) below =
    let e : suc (variables + suc i) ≡ suc (suc variables + i) = omega arith in
    ap (λ k. pos (suc variables) ∷ set (following (suc variables) i ++ drop i rest) i (pos k)) e
    ∙ ap (λ xs. pos (suc variables) ∷ xs) (following-set (suc variables) i rest (omega arith))

-- the clauses of the first difference that is left
pub differences-drop : (variables low high : ℕ) (literals : List ℤ) (i : ℕ) → i < length literals →
    differences (variables + i) low high (drop i literals)
    ≡ difference (variables + i) (moved low (get_or literals i (pos 0))) (moved high (get_or literals i (pos 0))) ++ differences (variables + suc i) low high (drop (suc i) literals)
differences-drop variables low high [] i below = absurd (omega arith)
differences-drop variables low high (literal ∷ literals) zero below =
    let e : suc (variables + 0) ≡ variables + 1 = omega arith in
    ap (λ k. difference (variables + 0) (moved low literal) (moved high literal) ++ differences k low high literals) e
differences-drop variables low high (literal ∷ literals) (suc i) below =
    let a : variables + suc i ≡ suc variables + i = omega arith in
    let b : suc variables + suc i ≡ variables + suc (suc i) = omega arith in
    ap (λ k. differences k low high (drop i literals)) a
    ∙ differences-drop (suc variables) low high literals i (omega arith)
    ∙ ap (λ k. difference k (moved low (get_or literals i (pos 0))) (moved high (get_or literals i (pos 0))) ++ differences (suc variables + suc i) low high (drop (suc i) literals)) (sym a)
    ∙ ap (λ k. difference (variables + suc i) (moved low (get_or literals i (pos 0))) (moved high (get_or literals i (pos 0))) ++ differences k low high (drop (suc i) literals)) b
