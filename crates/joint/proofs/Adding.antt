-- The clauses of selectors that are left to be added.
use Rattle.std.proofs.Common.{◌≡◌, refl, ℕ, zero, suc, ◌+◌, ◌<◌, ℤ, pos, negsuc, neg_ℤ, List, [], ◌∷◌, ◌++◌, length, drop, get_or, Some, arith}
use Rattle.std.specs.Prelude.{slice_get}
use Rattle.std.specs.Bool.{IsTrue}
use Rattle.std.proofs.lemmas.Bool.{and_parts}
use Rattle.clauses.specs.Literals.{clause_within, clauses_within, is_within}
use Rattle.gates_theory.specs.Unrolled.{moved}
use Rattle.joint_selectors.specs.Missed.{each_missed, missed}

-- the clause of the first literal that is left
pub missed-drop : (base before : ℕ) (clause : List ℤ) (i : ℕ) → i < length clause
    → missed base before (drop i clause) ≡ ((negsuc before ∷ neg_ℤ (moved base (get_or clause i (pos 0))) ∷ []) ∷ []) ++ missed base before (drop (suc i) clause)
missed-drop base before [] i below = absurd (omega arith)
missed-drop base before (literal ∷ literals) zero below = refl
missed-drop base before (literal ∷ literals) (suc i) below = missed-drop base before literals i (omega arith)

-- the first clause that is left
pub each-drop : (base before : ℕ) (clauses : List (List ℤ)) (i : ℕ) (clause : List ℤ) → slice_get clauses i ≡ Some clause
    → each_missed base (before + i) (drop i clauses) ≡ missed base (before + i) clause ++ each_missed base (before + suc i) (drop (suc i) clauses)
each-drop base before [] i clause here = cc
each-drop base before (first ∷ clauses) zero clause here =
    let is : first ≡ clause = cc in
    let e : suc (before + zero) ≡ before + suc zero = omega arith in
    rw (is, e) refl
each-drop base before (first ∷ clauses) (suc i) clause here =
    let e : before + suc i ≡ suc before + i = omega arith in
    let f : before + suc (suc i) ≡ suc before + suc i = omega arith in
    rw (e, f) (each-drop base (suc before) clauses i clause here)

pub clause-at : (size : ℕ) (clauses : List (List ℤ)) (i : ℕ) (clause : List ℤ) → IsTrue (clauses_within size clauses) → slice_get clauses i ≡ Some clause
    → IsTrue (clause_within size clause)
clause-at size [] i clause within here = cc
clause-at size (first ∷ clauses) zero clause within here =
    let is : first ≡ clause = cc in
    rw (← is) (and_parts (clause_within size first) (clauses_within size clauses) within).0
clause-at size (first ∷ clauses) (suc i) clause within here =
    clause-at size clauses i clause (and_parts (clause_within size first) (clauses_within size clauses) within).1 here

-- the literals that are left
pub within-next : (size : ℕ) (clause : List ℤ) (i : ℕ) → i < length clause → IsTrue (clause_within size (drop i clause)) → IsTrue (clause_within size (drop (suc i) clause))
within-next size [] i below within = absurd (omega arith)
within-next size (literal ∷ literals) zero below within = (and_parts (is_within size literal) (clause_within size literals) within).1
within-next size (literal ∷ literals) (suc i) below within = within-next size literals i (omega arith) within
