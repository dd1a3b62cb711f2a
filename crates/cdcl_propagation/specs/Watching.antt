-- Watched literals. Each live clause of two literals or more watches two of them, and is named in the lists of both;
-- a clause of one literal watches it twice, and is named in no list.
use Rattle.std.specs.Prelude.{◌≡◌, ◌≢◌, ◌⊎◌, ℕ, suc, ◌*◌, ◌<◌, ◌≤◌, List, [], ◌∷◌, ◌++◌, length, take, slice_index_or, true, false, Some}
use Rattle.std.specs.List.{All, Contains}
use Rattle.clauses.specs.Live.{Numbered, clause_of}
use Rattle.cdcl_trail.specs.Literals.{opposite}
use Rattle.cdcl_trail.specs.Path.{Path, start_of, literals_to}
use Rattle.cdcl_propagation.specs.declared.watch.Pair.{Pair}
use Rattle.cdcl_propagation.specs.declared.watch.Others.{Others}
use Rattle.cdcl_propagation.specs.declared.watch.Watch.{Watch}

abbrev pub no_pair : Pair
no_pair = record { first = 0; second = 0; others = record { third = 0; fourth = 0; fifth = 0; sixth = 0; seventh = 0; is_whole = false } }

-- what a clause watches, by its number
abbrev pub pair_of : List Pair → ℕ → Pair
pair_of pairs number = slice_index_or pairs number no_pair

abbrev pub Watches : Pair → ℕ → Type 0
Watches pair literal = (pair.first ≡ literal) ⊎ (pair.second ≡ literal)

-- the literals that are kept beside a pair
abbrev pub spares_of : Others → List ℕ
spares_of others = others.third ∷ others.fourth ∷ others.fifth ∷ others.sixth ∷ others.seventh ∷ []

-- a literal is watched, or kept beside the pair
abbrev pub IsAmong : Pair → ℕ → Type 0
IsAmong pair literal = Watches pair literal ⊎ Contains (spares_of pair.others) literal

-- those kept beside a pair are literals of the clause, and all that it has where that is said
pub record AreOthers (clause : List ℕ) (pair : Pair) : Type 0 where
  pub stand : All (Contains clause) (spares_of pair.others)
  pub whole : pair.others.is_whole ≡ true → All (IsAmong pair) clause

-- a pair of the one literal and the other, in whichever order
abbrev pub IsPairOf : Pair → ℕ → ℕ → Type 0
IsPairOf pair literal other = ((pair.first ≡ literal) × (pair.second ≡ other)) ⊎ ((pair.first ≡ other) × (pair.second ≡ literal))

-- some literal of a clause is true
abbrev pub HasTrue : List ℕ → List ℕ → Type 0
HasTrue trail clause = (literal : ℕ) × Contains clause literal × Contains trail literal

-- the two literals that a clause watches are some of it, and differ unless it has no other; so are those beside them
pub record IsPaired (clauses : Numbered ℕ) (pairs : List Pair) (codes : ℕ) : Type 0 where
  pub size : length pairs ≡ suc (length clauses)
  pub first : (number : ℕ) (clause : List ℕ) → clause_of clauses number ≡ Some clause → Contains clause (pair_of pairs number).first
  pub second : (number : ℕ) (clause : List ℕ) → clause_of clauses number ≡ Some clause → Contains clause (pair_of pairs number).second
  pub single : (number : ℕ) (clause : List ℕ) → clause_of clauses number ≡ Some clause
      → (pair_of pairs number).first ≡ (pair_of pairs number).second → All (λ literal. literal ≡ (pair_of pairs number).first) clause
  pub others : (number : ℕ) (clause : List ℕ) → clause_of clauses number ≡ Some clause → AreOthers clause (pair_of pairs number)
  pub within : (number : ℕ) → 0 < number → number < length pairs → ((pair_of pairs number).first < codes) × ((pair_of pairs number).second < codes)

-- a live clause of two literals: that in whose list it is named, and the blocker
pub record IsShort (clauses : Numbered ℕ) (literal : ℕ) (watch : Watch) : Type 0 where
  pub clause : List ℕ
  pub live : clause_of clauses watch.number ≡ Some clause
  pub short : length clause ≤ 2
  pub others : All (λ other. (other ≡ literal) ⊎ (other ≡ watch.blocker)) clause

-- an entry of the list of a literal: while the clause is live, the blocker is one of its literals
pub record IsEntry (clauses : Numbered ℕ) (size codes literal : ℕ) (watch : Watch) : Type 0 where
  pub some : 0 < watch.number
  pub number : watch.number < size
  pub within : watch.blocker < codes
  pub blocks : (clause : List ℕ) → clause_of clauses watch.number ≡ Some clause → Contains clause watch.blocker
  pub short : watch.is_short ≡ true → IsShort clauses literal watch

-- a list names a clause
abbrev pub Names : List Watch → ℕ → Type 0
Names list number = (watch : Watch) × Contains list watch × (watch.number ≡ number)

abbrev pub list_of : List (List Watch) → ℕ → List Watch
list_of lists literal = slice_index_or lists literal []

-- Along the first literals of a trail all is worked off: a clause that watches one of which the negation is among them
-- has a true literal. A clause of one literal is true.
pub record IsWorked (clauses : Numbered ℕ) (pairs : List Pair) (done trail : List ℕ) : Type 0 where
  pub satisfied : (number : ℕ) (clause : List ℕ) (literal : ℕ) → clause_of clauses number ≡ Some clause → Watches (pair_of pairs number) literal
      → Contains done (opposite literal) → HasTrue trail clause
  pub single : (number : ℕ) (clause : List ℕ) → clause_of clauses number ≡ Some clause
      → (pair_of pairs number).first ≡ (pair_of pairs number).second → Contains trail (pair_of pairs number).first

-- all is worked off at each level below the current one
abbrev pub AreLevelsWorked : Numbered ℕ → List Pair → Path → Type 0
AreLevelsWorked clauses pairs path = (level : ℕ) → level < length path.limits → IsWorked clauses pairs (literals_to path level) (literals_to path level)

-- the pairs and lists, where propagation has come to a place of the trail
pub record IsWatched (clauses : Numbered ℕ) (pairs : List Pair) (lists : List (List Watch)) (path : Path) (head : ℕ) : Type 0 where
  pub paired : IsPaired clauses pairs (2 * path.variables)
  pub within : (number : ℕ) (clause : List ℕ) → clause_of clauses number ≡ Some clause → All (λ literal. literal < 2 * path.variables) clause
  pub size : length lists ≡ 2 * path.variables
  pub entries : (literal : ℕ) → All (IsEntry clauses (length pairs) (2 * path.variables) literal) (list_of lists literal)
  pub listed : (number : ℕ) (clause : List ℕ) (literal : ℕ) → clause_of clauses number ≡ Some clause
      → (pair_of pairs number).first ≢ (pair_of pairs number).second → Watches (pair_of pairs number) literal → Names (list_of lists literal) number
  pub inside : head ≤ length path.literals
  pub reasons : length path.reasons ≡ length path.literals
  pub begun : (level : ℕ) → level < length path.limits → start_of path level ≤ length path.literals
  pub worked : IsWorked clauses pairs (take head path.literals) path.literals
  pub levels : AreLevelsWorked clauses pairs path

-- The same in the middle of the list of a false literal, which is apart from the others: `seen` is what stays in it
-- of the entries that were visited, and `rest` is to be visited.
pub record IsVisiting (clauses : Numbered ℕ) (pairs : List Pair) (lists : List (List Watch)) (path : Path) (head literal : ℕ) (seen rest : List Watch) : Type 0 where
  pub paired : IsPaired clauses pairs (2 * path.variables)
  pub within : (number : ℕ) (clause : List ℕ) → clause_of clauses number ≡ Some clause → All (λ literal. literal < 2 * path.variables) clause
  pub size : length lists ≡ 2 * path.variables
  pub entries : (other : ℕ) → other ≢ literal → All (IsEntry clauses (length pairs) (2 * path.variables) other) (list_of lists other)
  pub seen_entries : All (IsEntry clauses (length pairs) (2 * path.variables) literal) seen
  pub rest_entries : All (IsEntry clauses (length pairs) (2 * path.variables) literal) rest
  pub listed : (number : ℕ) (clause : List ℕ) (other : ℕ) → clause_of clauses number ≡ Some clause
      → (pair_of pairs number).first ≢ (pair_of pairs number).second → Watches (pair_of pairs number) other → other ≢ literal → Names (list_of lists other) number
  pub listed_here : (number : ℕ) (clause : List ℕ) → clause_of clauses number ≡ Some clause
      → (pair_of pairs number).first ≢ (pair_of pairs number).second → Watches (pair_of pairs number) literal → Names (seen ++ rest) number
  pub left : (number : ℕ) (clause : List ℕ) → clause_of clauses number ≡ Some clause
      → (pair_of pairs number).first ≢ (pair_of pairs number).second → Watches (pair_of pairs number) literal
      → HasTrue path.literals clause ⊎ Names rest number
  pub false_ : Contains path.literals (opposite literal)
  pub reasons : length path.reasons ≡ length path.literals
  pub inside : head ≤ length path.literals
  pub begun : (level : ℕ) → level < length path.limits → start_of path level ≤ length path.literals
  pub worked : IsWorked clauses pairs (take head path.literals) path.literals
  pub levels : AreLevelsWorked clauses pairs path
