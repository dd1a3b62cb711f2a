-- Literals as numbers from 0: 2 * (n - 1) is the variable n, and the number behind it its negation.
use Rattle.std.specs.Prelude.{ℕ, suc, ◌+◌, ◌-◌, ◌*◌, ◌/◌, ◌%◌, ℤ, pos, negsuc, List, map, Option, cond, nat_eq}
use Rattle.std.specs.Option.{option_map}
use Rattle.clauses.specs.Live.{Numbered}

abbrev pub code_of : ℤ → ℕ
code_of (pos n) = 2 * (n - 1)
code_of (negsuc n) = 2 * n + 1

abbrev pub literal_of : ℕ → ℤ
literal_of code = cond (nat_eq (code % 2) 0) (pos (suc (code / 2))) (negsuc (code / 2))

-- clauses of codes as clauses of literals
abbrev pub clause_of_codes : List ℕ → List ℤ
clause_of_codes codes = map literal_of codes

abbrev pub lemmas_of : List (Option (List ℕ)) → Numbered ℤ
lemmas_of stored = map (option_map clause_of_codes) stored
