-- Clauses by place, of which some were taken out, and how many words they have.
use Rattle.std.specs.Prelude.{ℕ, List, length, count_by, sum_by, Option, Some, None, is_some}

-- how many words a place has
abbrev pub place_words : Option (List ℕ) → ℕ
place_words None = 0
place_words (Some words) = length words

-- the words of all clauses that are there
abbrev pub stored_words : List (Option (List ℕ)) → ℕ
stored_words clauses = sum_by place_words clauses

-- how many clauses are there
abbrev pub live_clauses : List (Option (List ℕ)) → ℕ
live_clauses clauses = count_by (λ clause. is_some clause) clauses
