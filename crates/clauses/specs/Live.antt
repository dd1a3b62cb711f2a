-- Clauses by number, some of which were dropped.
use Rattle.std.specs.Prelude.{ℕ, zero, suc, ◌-◌, List, map, cond, nat_le, slice_set, slice_index_or, Option, Some, None}

-- the clauses that are numbered from 1; None stands where one was dropped
abbrev pub Numbered : Type 0 → Type 0
Numbered L = List (Option (List L))

-- the clause of a number, where it is live
abbrev pub clause_of : {L : Type 0} → Numbered L → ℕ → Option (List L)
clause_of clauses zero = None
clause_of clauses (suc place) = slice_index_or clauses place None

-- clauses of which none was dropped
abbrev pub all_live : {L : Type 0} → List (List L) → Numbered L
all_live clauses = map (λ clause. Some clause) clauses

-- the clause of a number is dropped, unless it is one of the first so many
abbrev pub without : {L : Type 0} → ℕ → ℕ → Numbered L → Numbered L
without kept number clauses = cond (nat_le number kept) clauses (slice_set clauses (number - 1) None)
