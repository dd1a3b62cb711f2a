-- What a look at an entry of a list finds, and what a visit does.
use Rattle.std.specs.Prelude.{◌≡◌, ◌≢◌, ◌⊎◌, ℕ, ◌*◌, List, [], ◌∷◌, ◌++◌, length, slice_set, false, Some}
use Rattle.std.specs.List.{All, Contains}
use Rattle.clauses.specs.Live.{Numbered, clause_of}
use Rattle.cdcl_trail.specs.Literals.{opposite}
use Rattle.cdcl_trail.specs.Path.{Path, pushed}
use Rattle.cdcl_propagation.specs.declared.watch.Pair.{Pair}
use Rattle.cdcl_propagation.specs.declared.watch.Watch.{Watch}
use Rattle.cdcl_propagation.specs.declared.watch.Visit.{Visit}
use Rattle.cdcl_propagation.specs.declared.watch.Visit.TheVariants as look
use Rattle.cdcl_propagation.specs.declared.watch.Outcome.{Outcome}
use Rattle.cdcl_propagation.specs.declared.watch.Outcome.TheVariants as outcome
use Rattle.cdcl_propagation.specs.declared.watch.Stop.{Stop}
use Rattle.cdcl_propagation.specs.declared.watch.Stop.TheVariants as stop
use Rattle.cdcl_propagation.specs.State.{IsConflict}
use Rattle.cdcl_propagation.specs.Watching.{pair_of, list_of, Watches, AreOthers, IsPairOf, IsEntry}

-- all literals of a clause are false but one
pub record IsForced (clauses : Numbered ℕ) (path : Path) (number literal : ℕ) : Type 0 where
  pub clause : List ℕ
  pub live : clause_of clauses number ≡ Some clause
  pub stands : Contains clause literal
  pub others : All (λ other. (other ≡ literal) ⊎ Contains path.literals (opposite other)) clause

-- the entry stays, and its blocker is true
pub record StaysTrue (clauses : Numbered ℕ) (size codes : ℕ) (path : Path) (literal : ℕ) (old new : Watch) : Type 0 where
  pub number : new.number ≡ old.number
  pub entry : IsEntry clauses size codes literal new
  pub true_ : Contains path.literals new.blocker

-- the entry stays, and its blocker is the one literal that is not false
pub record StaysForced (clauses : Numbered ℕ) (size codes : ℕ) (path : Path) (literal : ℕ) (old new : Watch) : Type 0 where
  pub number : new.number ≡ old.number
  pub entry : IsEntry clauses size codes literal new
  pub forced : IsForced clauses path old.number new.blocker
  pub not_true : Contains path.literals new.blocker → ⊥
  pub not_false : Contains path.literals (opposite new.blocker) → ⊥

-- the clause is to watch another literal, which is not false, in place of this one
pub record CanMove (clauses : Numbered ℕ) (pairs : List Pair) (path : Path) (literal number : ℕ) (new : Pair) : Type 0 where
  pub clause : List ℕ
  pub live : clause_of clauses number ≡ Some clause
  pub was : IsPairOf (pair_of pairs number) literal new.second
  pub first : Contains clause new.first
  pub differs : new.first ≢ new.second
  pub others : AreOthers clause new
  pub not_false : Contains path.literals (opposite new.first) → ⊥

-- the clause is not there, or does not watch the literal
abbrev pub IsGone : Numbered ℕ → List Pair → ℕ → ℕ → Type 0
IsGone clauses pairs literal number = (clause : List ℕ) → clause_of clauses number ≡ Some clause → Watches (pair_of pairs number) literal → ⊥

abbrev pub Says : Numbered ℕ → List Pair → Path → ℕ → Watch → Visit → Type 0
Says clauses pairs path literal watch (look.Keep new) = StaysTrue clauses (length pairs) (2 * path.variables) path literal watch new
Says clauses pairs path literal watch (look.Force new) = StaysForced clauses (length pairs) (2 * path.variables) path literal watch new
Says clauses pairs path literal watch (look.Move new) = CanMove clauses pairs path literal watch.number new
Says clauses pairs path literal watch look.Gone = IsGone clauses pairs literal watch.number
Says clauses pairs path literal watch look.Conflict = IsConflict clauses path watch.number

-- pairs and lists after a clause watches another pair
pub record Moves (pairs : List Pair) (lists : List (List Watch)) (number : ℕ) (new : Pair) (pairs' : List Pair) (lists' : List (List Watch)) : Type 0 where
  pub new_pairs : pairs' ≡ slice_set pairs number new
  pub new_lists : lists' ≡ slice_set lists new.first (list_of lists new.first ++ record { number = number; blocker = new.second; is_short = false } ∷ [])

-- what stops propagation
abbrev pub StopsFor : Numbered ℕ → Path → Stop → Type 0
StopsFor clauses path (stop.Conflict number) = IsConflict clauses path number
StopsFor clauses path stop.NoMemory = Unit {0}

-- What a visit does. Where nothing moves, pairs and lists stay.
abbrev pub Visited : Numbered ℕ → List Pair → List (List Watch) → Path → ℕ → Watch → Outcome → List Pair → List (List Watch) → Path → Type 0
Visited clauses pairs lists path literal watch (outcome.Keep new) pairs' lists' path' =
    (pairs' ≡ pairs) × (lists' ≡ lists) × (((path' ≡ path) × StaysTrue clauses (length pairs) (2 * path.variables) path literal watch new)
    ⊎ ((path' ≡ pushed path new.blocker new.number) × StaysForced clauses (length pairs) (2 * path.variables) path literal watch new))
Visited clauses pairs lists path literal watch outcome.Gone pairs' lists' path' =
    (path' ≡ path) × (((pairs' ≡ pairs) × (lists' ≡ lists) × IsGone clauses pairs literal watch.number)
    ⊎ ((new : Pair) × CanMove clauses pairs path literal watch.number new × Moves pairs lists watch.number new pairs' lists'))
Visited clauses pairs lists path literal watch (outcome.Stop why) pairs' lists' path' =
    (pairs' ≡ pairs) × (lists' ≡ lists) × (path' ≡ path) × StopsFor clauses path why
