-- A worked trail: the clause of one literal, its place, and the clause of the negation.
use Rattle.std.proofs.Common.{◌≡◌, ◌≢◌, ℕ, zero, suc, ◌<◌, [], ◌∷◌, ◌⊎◌, slice_index, Some, inl, refl, arith}
use Rattle.std.proofs.lemmas.List.Elements.{All-cons, All-nil}
use Rattle.clauses.specs.Live.{Numbered}
use Rattle.cdcl_conflict_theory.specs.Trails.{Steps, IsTrail, IsConflict, HasReason, IsFalseBelow, literal_at}
use Rattle.cdcl_conflict_theory.proofs.Members.{contains-head}

abbrev pub worked_clauses : Numbered ℕ
worked_clauses = Some (0 ∷ []) ∷ (Some (1 ∷ []) ∷ [])

abbrev pub worked_steps : Steps
worked_steps = record { literals = 0 ∷ []; reasons = 1 ∷ []; fixed = 1; start = 1 }

worked_reason : (place : ℕ) → place < 1 → HasReason worked_clauses worked_steps place
worked_reason zero within = record {
  clause = 0 ∷ [];
  live = refl;
  own = contains-head 0 [];
  others = All-cons (λ other. (other ≡ literal_at worked_steps 0) ⊎ IsFalseBelow worked_steps 0 other) 0 [] (inl refl) (All-nil (λ other. (other ≡ literal_at worked_steps 0) ⊎ IsFalseBelow worked_steps 0 other));
}
worked_reason (suc place) within = absurd (omega arith)

worked_number : (place : ℕ) → place < 1 → slice_index worked_steps.reasons place ≢ 0
worked_number zero within none = omega arith
worked_number (suc place) within none = omega arith

pub worked_trail : (clauses : Numbered ℕ) → clauses ≡ worked_clauses → IsTrail clauses worked_steps
worked_trail clauses is = rw is record {
  apart = λ place other here there same. omega arith;
  reasons = refl;
  order = omega arith;
  within = omega arith;
  reasoned = λ place within some. worked_reason place within;
  fixed = worked_number;
  current = λ place past within. absurd (omega arith);
}

pub worked_conflict : (clauses : Numbered ℕ) → clauses ≡ worked_clauses → IsConflict clauses worked_steps 2
worked_conflict clauses is = rw is record {
  clause = 1 ∷ [];
  live = refl;
  falses = All-cons (IsFalseBelow worked_steps 1) 1 [] (0, omega arith, refl) (All-nil (IsFalseBelow worked_steps 1));
}
