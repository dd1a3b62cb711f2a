-- No clause, and nothing on the trail.
use Rattle.std.proofs.Common.{◌≡◌, ℕ, zero, suc, ◌*◌, List, [], ◌∷◌, replicate, Some, inl, inr, refl, arith}
use Rattle.std.proofs.lemmas.Bool.{cases_lt}
use Rattle.std.proofs.lemmas.List.{get_or-replicate, get_or_past, length-replicate}
use Rattle.std.proofs.lemmas.List.Elements.{All-nil}
use Rattle.clauses.specs.Live.{clause_of}
use Rattle.cdcl_trail.specs.Path.{Path}
use Rattle.cdcl_propagation.specs.declared.watch.Watch.{Watch}
use Rattle.cdcl_propagation.specs.Watching.{list_of, no_pair, IsEntry, IsWatched}

-- the trail of so many variables on which no literal is true
abbrev pub empty_path : ℕ → Path
empty_path variables = record { variables = variables; literals = []; reasons = []; limits = [] }

no_clause : (number : ℕ) (clause : List ℕ) → clause_of {L = ℕ} [] number ≡ Some clause → ⊥
no_clause zero clause live = cc
no_clause (suc place) clause live = cc

no_entry : (count literal : ℕ) → list_of (replicate count []) literal ≡ []
no_entry count literal =
    elim (cases_lt literal count) [
      | inl within ↦ get_or-replicate count literal [] [] within
      | inr past ↦ get_or_past (replicate count []) literal [] (omega (arith, length-replicate {A = List Watch} count []))
    ]

pub watched_empty : (variables : ℕ) → IsWatched [] (no_pair ∷ []) (replicate (2 * variables) []) (empty_path variables) 0
watched_empty variables = record {
  paired = record {
    size = refl;
    first = λ number clause live. absurd (no_clause number clause live);
    second = λ number clause live. absurd (no_clause number clause live);
    single = λ number clause live. absurd (no_clause number clause live);
    others = λ number clause live. absurd (no_clause number clause live);
    within = λ number some inside. absurd (omega arith);
  };
  within = λ number clause live. absurd (no_clause number clause live);
  size = length-replicate (2 * variables) [];
  entries = λ literal. rw (no_entry (2 * variables) literal) (All-nil (IsEntry [] 1 (2 * variables) literal));
  listed = λ number clause literal live. absurd (no_clause number clause live);
  inside = omega arith;
  reasons = refl;
  begun = λ level inside. absurd (omega arith);
  worked = record {
    satisfied = λ number clause literal live. absurd (no_clause number clause live);
    single = λ number clause live. absurd (no_clause number clause live);
  };
  levels = λ level inside. absurd (omega arith);
}
