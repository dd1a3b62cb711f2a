-- A clause more.
use Rattle.std.specs.Prelude.{◌≡◌, ◌⊎◌, ℕ, Bool, List, [], ◌∷◌, ◌++◌, slice_set, Option, None}
use Rattle.clauses.specs.Live.{Numbered, clause_of}
use Rattle.cdcl_propagation.specs.declared.watch.Pair.{Pair}
use Rattle.cdcl_propagation.specs.declared.watch.Watch.{Watch}
use Rattle.cdcl_propagation.specs.Watching.{list_of}

-- the lists with an entry more in the list of a literal
abbrev pub with_entry : List (List Watch) → ℕ → Watch → List (List Watch)
with_entry lists literal watch = slice_set lists literal (list_of lists literal ++ watch ∷ [])

-- the lists where a clause is named in both that it watches
abbrev pub with_both : List (List Watch) → ℕ → Pair → Bool → List (List Watch)
with_both lists number pair is_short =
    with_entry
    (with_entry lists pair.first record { number = number; blocker = pair.second; is_short = is_short })
    pair.second
    record { number = number; blocker = pair.first; is_short = is_short }

-- a clause gets the next number, and a pair to watch; None where it is gone at once
pub record Adds (clauses : Numbered ℕ) (pairs : List Pair) (clause : Option (List ℕ)) (pair : Pair) (clauses' : Numbered ℕ) (pairs' : List Pair) : Type 0 where
  pub new_clauses : clauses' ≡ clauses ++ clause ∷ []
  pub new_pairs : pairs' ≡ pairs ++ pair ∷ []

-- the clauses that are live, and their numbers, are the same
abbrev pub KeepsClauses : Numbered ℕ → Numbered ℕ → Type 0
KeepsClauses old new = (number : ℕ) → clause_of new number ≡ clause_of old number

-- what a clause that was refused leaves
abbrev pub IsRefused : Numbered ℕ → List Pair → Pair → Numbered ℕ → List Pair → Type 0
IsRefused clauses pairs pair clauses' pairs' = ((clauses' ≡ clauses) × (pairs' ≡ pairs)) ⊎ Adds clauses pairs None pair clauses' pairs'
