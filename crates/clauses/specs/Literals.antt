-- Literals as signed numbers: n is the variable n, counted from 1, and -n its negation.
use Rattle.std.specs.Prelude.{ℕ, suc, ◌+◌, ℤ, pos, negsuc, Bool, ◌&&◌, List, nat_lt, nat_le, length}
use Rattle.std.specs.List.{list_all, sum_by}
use Rattle.clauses.specs.declared.flat.TheConstants.{MOST_VARIABLES}

-- the variable of a literal
abbrev pub variable_of : ℤ → ℕ
variable_of (pos n) = n
variable_of (negsuc n) = suc n

-- a literal of one of the first so many variables
abbrev pub is_within : ℕ → ℤ → Bool
is_within variables literal = nat_lt 0 (variable_of literal) && nat_le (variable_of literal) variables

-- a literal at all: not 0, and no larger in size than there may be variables
abbrev pub is_literal : ℤ → Bool
is_literal = is_within MOST_VARIABLES

-- every literal of a clause, and of each of several clauses, is of one of the first so many variables
abbrev pub clause_within : ℕ → List ℤ → Bool
clause_within variables clause = list_all (is_within variables) clause

abbrev pub clauses_within : ℕ → List (List ℤ) → Bool
clauses_within variables clauses = list_all (clause_within variables) clauses

-- the words of clauses: the literals of each, and one more
abbrev pub clause_words : List (List ℤ) → ℕ
clause_words clauses = sum_by (λ clause. length clause + 1) clauses

-- the words with one clause more
abbrev pub words_with : List (List ℤ) → List ℤ → ℕ
words_with clauses clause = clause_words clauses + (length clause + 1)
