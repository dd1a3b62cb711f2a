-- What the analysis knows of each place.
use Rattle.std.specs.Prelude.{◌≡◌, ◌≢◌, ◌⊎◌, ℕ, zero, suc, ◌+◌, ◌<◌, ◌≤◌, Bool, true, false, cond, nat_le, ◌&&◌, List, [], ◌∷◌, ◌++◌, slice_index, slice_index_or, slice_set, Some, map, filter, reverse}
use Rattle.std.specs.List.{All, AllPairs, Contains}
use Rattle.std.specs.List.Sorted.{IsPermutation, IsNonDecreasing}
use Rattle.cdcl_conflict.specs.declared.standing.Standing.{Standing}
use Rattle.cdcl_conflict.specs.declared.standing.Standing.TheVariants.{Untouched, Waiting, Explained, Kept}
use Rattle.clauses.specs.Live.{Numbered, clause_of}
use Rattle.cdcl_trail.specs.Literals.{opposite}
use Rattle.cdcl_conflict_theory.specs.Trails.{Steps, size_of, literal_at, reason_at, IsFalseBelow}

-- what is known of a place
abbrev pub standing_at : List Standing → ℕ → Standing
standing_at standings place = slice_index_or standings place Untouched

abbrev pub is_waiting : Standing → Bool
is_waiting Untouched = false
is_waiting Waiting = true
is_waiting Explained = false
is_waiting Kept = false

-- how many places wait from a start on, of the first so many
abbrev pub waiting_below : List Standing → ℕ → ℕ → ℕ
waiting_below standings start zero = 0
waiting_below standings start (suc end) =
    waiting_below standings start end + cond (nat_le start end && is_waiting (standing_at standings end)) 1 0

-- The list has just the places that were reached, each once, and they are some of the first so many.
pub record IsListed (size : ℕ) (standings : List Standing) (reached : List ℕ) : Type 0 where
  pub touched : (place : ℕ) → standing_at standings place ≢ Untouched → Contains reached place
  pub only : All (λ place. standing_at standings place ≢ Untouched) reached
  pub within : All (λ place. place < size) reached
  pub once : AllPairs (λ place other. place ≢ other) reached

-- A place was reached: nothing changed, where it is past the end or was reached before, or it waits from now on.
abbrev pub ReachesPlace : ℕ → ℕ → ℕ → ℕ → List Standing → List ℕ → List Standing → List ℕ → Type 0
ReachesPlace start end place waiting old reached new reached' =
    (((end ≤ place) ⊎ (standing_at old place ≢ Untouched)) × (waiting ≡ 0) × (new ≡ old) × (reached' ≡ reached))
    ⊎ ((place < end) × (standing_at old place ≡ Untouched) × (waiting ≡ cond (nat_le start place) 1 0)
    × (new ≡ slice_set old place Waiting) × (reached' ≡ reached ++ place ∷ []))

-- a literal of a clause is the one at the place of the end, or false by a place in front of it
abbrev pub IsReadable : Steps → ℕ → ℕ → Type 0
IsReadable steps end literal = ((end < size_of steps) × (literal ≡ literal_at steps end)) ⊎ IsFalseBelow steps end literal

-- a literal is false by one of the first so many places, which was reached
abbrev pub IsReached : Steps → List Standing → ℕ → ℕ → Type 0
IsReached steps standings end literal =
    (place : ℕ) × (place < end) × (literal ≡ opposite (literal_at steps place)) × (standing_at standings place ≢ Untouched)

-- a place stays as it was, or it waits since a clause has the negation of its literal
abbrev pub IsChange : Steps → List ℕ → ℕ → List Standing → List Standing → ℕ → Type 0
IsChange steps clause end old new place =
    (standing_at new place ≡ standing_at old place)
    ⊎ ((standing_at old place ≡ Untouched) × (standing_at new place ≡ Waiting) × (place < end)
    × Contains clause (opposite (literal_at steps place)))

-- The first so many literals of a clause were reached, up to an end; so many places wait since.
pub record IsReaching (steps : Steps) (clause : List ℕ) (end count : ℕ) (old : List Standing) (reached : List ℕ) (new : List Standing) (reached' : List ℕ) (waiting : ℕ) : Type 0 where
  pub changes : (place : ℕ) → IsChange steps clause end old new place
  pub read : (place : ℕ) → place < count →
      ((end < size_of steps) × (slice_index clause place ≡ literal_at steps end)) ⊎ IsReached steps new end (slice_index clause place)
  pub listed : IsListed (size_of steps) new reached'
  pub more : List ℕ
  pub extends : reached' ≡ reached ++ more
  pub counted : waiting_below new steps.start end ≡ waiting_below old steps.start end + waiting
  pub few : waiting ≤ count

-- A place is explained: its reason is live and has its literal, and the places of its other literals were reached.
pub record IsExplained (clauses : Numbered ℕ) (steps : Steps) (standings : List Standing) (place : ℕ) : Type 0 where
  pub clause : List ℕ
  pub live : clause_of clauses (reason_at steps place) ≡ Some clause
  pub own : Contains clause (literal_at steps place)
  pub others : All (λ other. (other ≡ literal_at steps place) ⊎ IsReached steps standings place other) clause

-- a place was reached since a clause has the negation of its literal: the conflict, or the reason of an explained place
abbrev pub IsNamed : Numbered ℕ → Steps → ℕ → List Standing → ℕ → Type 0
IsNamed clauses steps number standings place =
    (hint : ℕ) × (clause : List ℕ) × (clause_of clauses hint ≡ Some clause) × Contains clause (opposite (literal_at steps place))
    × ((hint ≡ number) ⊎ ((other : ℕ) × (standing_at standings other ≡ Explained) × (hint ≡ reason_at steps other)))

-- The search from a conflict, at any of its moments: what the conflict and the reasons of explained places name was
-- reached, and nothing else.
pub record IsExplored (clauses : Numbered ℕ) (steps : Steps) (number : ℕ) (standings : List Standing) : Type 0 where
  pub clause : List ℕ
  pub live : clause_of clauses number ≡ Some clause
  pub conflict : All (IsReached steps standings (size_of steps)) clause
  pub explained : (place : ℕ) → standing_at standings place ≡ Explained → IsExplained clauses steps standings place
  pub named : (place : ℕ) → standing_at standings place ≢ Untouched → IsNamed clauses steps number standings place

-- A place was explained, which waited: it is a hint's from now on, and what its reason names was reached.
pub record IsExplaining (clauses : Numbered ℕ) (steps : Steps) (place : ℕ) (old : List Standing) (reached : List ℕ) (new : List Standing) (reached' : List ℕ) (waiting : ℕ) : Type 0 where
  pub explored : (number : ℕ) → IsExplored clauses steps number old → IsExplored clauses steps number new
  pub listed : IsListed (size_of steps) new reached'
  pub more : List ℕ
  pub extends : reached' ≡ reached ++ more
  pub now : standing_at new place ≡ Explained
  pub others : (other : ℕ) → other ≢ place → (standing_at new other ≡ standing_at old other)
      ⊎ ((standing_at old other ≡ Untouched) × (standing_at new other ≡ Waiting) × (other < place))
  pub counted : waiting_below new steps.start place ≡ waiting_below old steps.start place + waiting

-- The sweep down the current level, at a place: none waits from there on, and so many do below.
pub record IsSweeping (steps : Steps) (standings : List Standing) (end waiting : ℕ) : Type 0 where
  pub order : end ≤ size_of steps
  pub above : (place : ℕ) → end ≤ place → standing_at standings place ≢ Waiting
  pub none_kept : (place : ℕ) → standing_at standings place ≢ Kept
  pub counted : waiting_below standings steps.start end ≡ waiting

-- One place is kept, of the current level.
pub record IsTop (steps : Steps) (standings : List Standing) (top : ℕ) : Type 0 where
  pub current : steps.start ≤ top
  pub within : top < size_of steps
  pub kept : standing_at standings top ≡ Kept
  pub only : (place : ℕ) → standing_at standings place ≡ Kept → place ≡ top

-- The current level was swept: what still waits is lower, and one place is kept, if one waited.
pub record IsSwept (clauses : Numbered ℕ) (steps : Steps) (waiting : ℕ) (old : List Standing) (new : List Standing) (reached' : List ℕ) : Type 0 where
  pub explored : (number : ℕ) → IsExplored clauses steps number old → IsExplored clauses steps number new
  pub listed : IsListed (size_of steps) new reached'
  pub top : ((waiting ≡ 0) × ((place : ℕ) → standing_at new place ≢ Kept)) ⊎ ((place : ℕ) × IsTop steps new place)
  pub lower : (place : ℕ) → standing_at new place ≡ Waiting → place < steps.start

-- The place with an index in the list does not wait any more, and the others stay settled. A place that is kept since
-- is of no level but a lower one, and not of level 0.
pub record IsSettling (clauses : Numbered ℕ) (steps : Steps) (count : ℕ) (old : List Standing) (new : List Standing) (reached' : List ℕ) : Type 0 where
  pub explored : (number : ℕ) → IsExplored clauses steps number old → IsExplored clauses steps number new
  pub listed : IsListed (size_of steps) new reached'
  pub keeps : (place : ℕ) → standing_at old place ≡ Kept → standing_at new place ≡ Kept
  pub kept : (place : ℕ) → standing_at new place ≡ Kept → (standing_at old place ≡ Kept) ⊎ ((steps.fixed ≤ place) × (place < steps.start))
  pub lower : (place : ℕ) → standing_at new place ≡ Waiting → place < steps.start
  pub settled : (index : ℕ) → index < count → standing_at new (slice_index reached' index) ≢ Waiting

-- One place of a lower level was settled.
pub record IsSettled (clauses : Numbered ℕ) (steps : Steps) (place : ℕ) (old : List Standing) (reached : List ℕ) (new : List Standing) (reached' : List ℕ) : Type 0 where
  pub explored : (number : ℕ) → IsExplored clauses steps number old → IsExplored clauses steps number new
  pub listed : IsListed (size_of steps) new reached'
  pub more : List ℕ
  pub extends : reached' ≡ reached ++ more
  pub settled : standing_at new place ≢ Waiting
  pub stays : (other : ℕ) → standing_at old other ≢ Untouched → standing_at old other ≢ Waiting → standing_at new other ≡ standing_at old other
  pub kept : (other : ℕ) → standing_at new other ≡ Kept → (standing_at old other ≡ Kept)
      ⊎ ((other ≡ place) × (standing_at old place ≡ Waiting) × (steps.fixed ≤ place))
  pub waits : (other : ℕ) → standing_at new other ≡ Waiting → (standing_at old other ≡ Waiting)
      ⊎ ((standing_at old place ≡ Waiting) × (other < place))

abbrev pub is_explained : Standing → Bool
is_explained Untouched = false
is_explained Waiting = false
is_explained Explained = true
is_explained Kept = false

abbrev pub is_kept : Standing → Bool
is_kept Untouched = false
is_kept Waiting = false
is_kept Explained = false
is_kept Kept = true

-- the numbers of the reasons of explained places, and the negations of the literals at kept ones
abbrev pub hints_at : List Standing → List ℕ → List ℕ → List ℕ
hints_at standings reasons places = map (λ place. slice_index reasons place) (filter (λ place. is_explained (standing_at standings place)) places)

abbrev pub literals_at : List Standing → List ℕ → List ℕ → List ℕ
literals_at standings literals places = map (λ place. opposite (slice_index literals place)) (filter (λ place. is_kept (standing_at standings place)) places)

-- The hints name the reasons of the explained places as these rise, and then the conflict; the literals are the
-- negations of those at the kept places, as these fall.
pub record IsCollected (steps : Steps) (number : ℕ) (standings : List Standing) (reached literals hints : List ℕ) : Type 0 where
  pub places : List ℕ
  pub permutation : IsPermutation reached places
  pub rising : IsNonDecreasing places
  pub hints_are : hints ≡ hints_at standings steps.reasons places ++ number ∷ []
  pub literals_are : literals ≡ literals_at standings steps.literals (reverse places)

-- nothing is known of any place
abbrev pub IsClear : List Standing → Type 0
IsClear standings = (place : ℕ) → standing_at standings place ≡ Untouched
