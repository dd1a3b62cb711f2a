-- Clauses within so many variables, and the first values of a model.
use Rattle.std.proofs.Common.{◌≡◌, refl, ap, ◌∙◌, ℕ, zero, suc, ◌+◌, ◌-◌, ◌*◌, ◌≤◌, ℤ, true, false, List, [], ◌∷◌, map, length, get_or, arith}
use Rattle.std.specs.Prelude.{IsTrue}
use Rattle.std.specs.List.{range_with_len}
use Rattle.std.proofs.lemmas.Bool.{and_from}
use Rattle.std.proofs.lemmas.List.FromFn.{get_or-map-range_with_len, length-map-range_with_len}
use Rattle.clauses.specs.Literals.{clause_within, clauses_within, is_within}
use Rattle.clauses.specs.Models.{Assignment, IsModel}
use Rattle.gates_theory.specs.Circuits.{AreSame}
use Rattle.gates_theory.specs.Relations.{circuit_of, IsClosed, Relation}
use Rattle.gates_theory.specs.Unrolled.{moved, units, unrolled}
use Rattle.gates_theory.proofs.Agreement.{same-met}
use Rattle.gates_theory.proofs.Chains.{relation-sound}
use Rattle.gates_theory.proofs.Within.{both_within, moved_within, unrolled-within}
use Rattle.run_terms.specs.Formulas.{values_of, whole}
use Rattle.joint_theory.proofs.Parts.{all-weaker, map-parts}

-- clauses of one literal each
pub units-within : (n size base : ℕ) (literals : List ℤ) → IsTrue (clause_within size literals) → base + size ≤ n → IsTrue (clauses_within n (units base literals))
units-within n size base literals within fits =
    map-parts (clause_within n) (λ literal. moved base literal ∷ []) literals
    ∙ all-weaker (is_within size) (λ literal. clause_within n (moved base literal ∷ []))
    (λ literal h. and_from (is_within n (moved base literal)) true (moved_within size base n literal h fits) refl) literals within

pub whole-within : (r : Relation) (last : ℕ) → IsClosed r → IsTrue (clauses_within (suc last * length (circuit_of r).gates) (whole r last))
whole-within r last closed =
    let sound = relation-sound r closed in
    let g = length (circuit_of r).gates in
    both_within (suc last * length (circuit_of r).gates) (unrolled (circuit_of r) (suc last)) (units (last * length (circuit_of r).gates) (circuit_of r).hold)
    (unrolled-within (circuit_of r) (suc last) sound)
    (units-within (suc last * length (circuit_of r).gates) (length (circuit_of r).gates) (last * length (circuit_of r).gates) (circuit_of r).hold sound.hold
    (let e = next last (length (circuit_of r).gates) in omega arith))
  where
    next : (i g : ℕ) → suc i * g ≡ i * g + g
    next i g = grind arith

-- the first values of a model are a model of clauses that name no further variables
pub first-model : (n : ℕ) (clauses : List (List ℤ)) (v : Assignment) → IsTrue (clauses_within n clauses) → IsModel v clauses
    → IsModel (values_of (map v (range_with_len 1 n))) clauses
first-model n clauses v within model = same-met n (values_of (map v (range_with_len 1 n))) v same clauses within ∙ model
  where
    same : AreSame n (values_of (map v (range_with_len 1 n))) v
    same zero some few = absurd (omega arith)
    same (suc k) some few =
        let e : suc k - 1 ≡ k = omega arith in
        ap (λ (i : ℕ). get_or (map v (range_with_len 1 n)) i false) e ∙ get_or-map-range_with_len v 1 n k (suc k) false (omega arith) (omega arith)

pub first-length : (n : ℕ) (v : Assignment) → length (map v (range_with_len 1 n)) ≡ n
first-length n v = length-map-range_with_len v 1 n
