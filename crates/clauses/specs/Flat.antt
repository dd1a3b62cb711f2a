-- Clauses that lie one behind another in one list of literals.
use Rattle.std.specs.Prelude.{◌≡◌, ℕ, zero, suc, ◌+◌, ◌-◌, ◌≤◌, ℤ, List, [], ◌∷◌, length, take, drop, IsTrue}
use Rattle.clauses.specs.declared.flat.Clauses.TheInside.{Inside}
use Rattle.clauses.specs.declared.flat.TheConstants.{MOST_WORDS, MOST_VARIABLES}
use Rattle.clauses.specs.Literals.{clause_within}

-- the lists that begin at a place and end where each of the next begins
abbrev pub lists_from : List ℤ → ℕ → List ℕ → List (List ℤ)
lists_from literals start [] = []
lists_from literals start (end ∷ ends) = take (end - start) (drop start literals) ∷ lists_from literals end ends

-- where the list at a place begins, counted from 0; at the end of all for the place behind the last
abbrev pub begin_of : ℕ → List ℕ → ℕ → ℕ
begin_of start [] place = start
begin_of start (end ∷ ends) zero = start
begin_of start (end ∷ ends) (suc place) = begin_of end ends place

-- no end comes before the one in front of it, and the last is the end of all
abbrev pub EndsAt : ℕ → List ℕ → ℕ → Type 0
EndsAt start [] size = start ≡ size
EndsAt start (end ∷ ends) size = (start ≤ end) × EndsAt end ends size

-- the clauses follow one another from the first literal to the last, and keep to their limits
pub record IsFlat (a : Inside) : Type 0 where
  pub cut : EndsAt 0 a.ends.items (length a.literals.items)
  pub few : length a.literals.items + length a.ends.items ≤ MOST_WORDS
  pub literals : IsTrue (clause_within MOST_VARIABLES a.literals.items)

abbrev pub clauses_of : Inside → List (List ℤ)
clauses_of a = lists_from a.literals.items 0 a.ends.items
