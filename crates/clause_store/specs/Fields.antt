-- What a store keeps of its fields, and what they stand for.
use Rattle.std.specs.Prelude.{◌≡◌, ℕ, zero, suc, ◌+◌, ◌-◌, ◌/◌, ◌%◌, ◌<◌, ◌≤◌, List, [], ◌∷◌, length, take, drop, slice_index, cond, nat_eq, Option, Some, None}
use Rattle.clause_store.specs.declared.region.TheConstants.{MOST_FILLED}
use Rattle.clause_store.specs.declared.store.Store.TheInside.{Inside}
use Rattle.clause_store.specs.Stored.{stored_words, live_clauses}

-- where the words of a place begin, in a region whose first run begins at `first`
abbrev pub begin_at : ℕ → List ℕ → ℕ → ℕ
begin_at first ends zero = first
begin_at first ends (suc place) = slice_index ends place / 2

-- The clause of a run, by where it begins and by its code: twice where it ends, and one more if the clause was taken
-- out.
abbrev pub clause_from : List ℕ → ℕ → ℕ → Option (List ℕ)
clause_from words begin code = cond (nat_eq (code % 2) 0) (Some (take (code / 2 - begin) (drop begin words))) None

-- the clauses of runs that lie one behind the other
abbrev pub clauses_from : List ℕ → ℕ → List ℕ → List (Option (List ℕ))
clauses_from words begin [] = []
clauses_from words begin (code ∷ ends) = clause_from words begin code ∷ clauses_from words (code / 2) ends

abbrev pub clauses_of : List ℕ → List ℕ → List (Option (List ℕ))
clauses_of words ends = clauses_from words 0 ends

-- runs that lie one behind the other fill a region from one place to another
abbrev pub IsRising : ℕ → List ℕ → ℕ → Type 0
IsRising begin [] stop = begin ≡ stop
IsRising begin (code ∷ ends) stop = (begin ≤ code / 2) × IsRising (code / 2) ends stop

-- so many words that begin at a place are copied to an earlier one; those before that and those from `stop` on stay
pub record MovesDown (old new : List ℕ) (begin stop to size : ℕ) : Type 0 where
  pub length_is : length new ≡ length old
  pub below : (place : ℕ) → place < to → slice_index new place ≡ slice_index old place
  pub beyond : (place : ℕ) → stop ≤ place → slice_index new place ≡ slice_index old place
  pub moved : (place : ℕ) → place < size → slice_index new (to + place) ≡ slice_index old (begin + place)

-- the runs fill the region, and the counts are those of the clauses
pub record IsStore (store : Inside) : Type 0 where
  pub rising : IsRising 0 store.ends.items (length store.words.items)
  pub few : length store.words.items ≤ MOST_FILLED
  pub used : store.used ≡ stored_words (clauses_of store.words.items store.ends.items)
  pub live : store.live ≡ live_clauses (clauses_of store.words.items store.ends.items)
