-- The search begins: the places of the conflict wait, and one of them at least is of the current level.
use Rattle.std.proofs.Common.{◌≡◌, ◌≢◌, ℕ, ◌<◌, ◌≤◌, List, [], length, Some, inl, inr, refl, sym, ap, ◌∙◌, subst, arith}
use Rattle.std.specs.List.{All, Contains}
use Rattle.std.proofs.lemmas.Bool.{cases_lt}
use Rattle.std.proofs.lemmas.List.{get_or_default}
use Rattle.std.proofs.lemmas.List.Elements.{All-contains}
use Rattle.clauses.specs.Live.{Numbered, clause_of}
use Rattle.cdcl_conflict.specs.declared.standing.Standing.{Standing}
use Rattle.cdcl_conflict.specs.declared.standing.Standing.TheVariants.{Untouched, Waiting, Explained, Kept}
use Rattle.cdcl_trail.specs.Literals.{opposite}
use Rattle.cdcl_conflict_theory.specs.Trails.{Steps, IsTrail, IsConflict, HasEnded, lower_literals, size_of, literal_at}
use Rattle.cdcl_conflict.specs.Standings.{standing_at, waiting_below, IsListed, IsReadable, IsReached, IsReaching, IsExplored, IsSweeping}
use Rattle.cdcl_conflict_theory.proofs.Literals.{opposite-opposite, clash}
use Rattle.cdcl_conflict_theory.proofs.Lower.{lower_contains, lower_at}
use Rattle.cdcl_conflict.proofs.Counting.{waiting_none, waiting_untouched}

-- nothing is known at first
pub listed_none : (size : ℕ) (standings : List Standing) → ((place : ℕ) → standing_at standings place ≡ Untouched) → IsListed size standings []
listed_none size standings clear = record {
  touched = λ place touched. absurd (touched (clear place));
  only = λ k d within. absurd (omega arith);
  within = λ k d within. absurd (omega arith);
  once = λ i j d order within. absurd (omega arith);
}

-- the literals of a conflict can be read
pub conflict_readable : (clauses : Numbered ℕ) (steps : Steps) (number : ℕ) (clause : List ℕ) → (is : IsConflict clauses steps number) → clause_of clauses number ≡ Some clause → All (IsReadable steps (size_of steps)) clause
conflict_readable clauses steps number clause is live =
    let same : is.clause ≡ clause = let e : Some is.clause ≡ Some clause = sym is.live ∙ live in cc in
    subst (λ (c : List ℕ). All (IsReadable steps (size_of steps)) c) same (λ k d within. inr (is.falses k d within))

all_reached : (steps : Steps) (clause : List ℕ) (old : List Standing) (reached : List ℕ) (new : List Standing) (reached' : List ℕ) (waiting : ℕ) →
    IsReaching steps clause (size_of steps) (length clause) old reached new reached' waiting → All (IsReached steps new (size_of steps)) clause
all_reached steps clause old reached new reached' waiting reaching = λ k d before.
    subst (IsReached steps new (size_of steps)) (get_or_default clause k 0 d before) (elim (reaching.read k before) [ inl own ↦ absurd (omega (arith, own.0)) | inr there ↦ there ])

-- what was reached first waits
first_waits : (steps : Steps) (clause : List ℕ) (old : List Standing) (reached : List ℕ) (new : List Standing) (reached' : List ℕ) (waiting place : ℕ) → ((other : ℕ) → standing_at old other ≡ Untouched) →
    IsReaching steps clause (size_of steps) (length clause) old reached new reached' waiting → standing_at new place ≢ Untouched → (standing_at new place ≡ Waiting) × (place < size_of steps) × Contains clause (opposite (literal_at steps place))
first_waits steps clause old reached new reached' waiting place clear reaching touched =
    elim (reaching.changes place) [
      | inl kept ↦ absurd (touched (kept ∙ clear place))
      | inr changed ↦ (changed.1, changed.2, changed.3)
    ]

not_touched : (steps : Steps) (clause : List ℕ) (old : List Standing) (reached : List ℕ) (new : List Standing) (reached' : List ℕ) (waiting place : ℕ) (standing : Standing) → ((other : ℕ) → standing_at old other ≡ Untouched) →
    IsReaching steps clause (size_of steps) (length clause) old reached new reached' waiting → standing ≢ Untouched → standing ≢ Waiting → standing_at new place ≢ standing
not_touched steps clause old reached new reached' waiting place standing clear reaching some other is =
    elim (reaching.changes place) [
      | inl kept ↦ some (sym is ∙ kept ∙ clear place)
      | inr changed ↦ other (sym is ∙ changed.1)
    ]

pub explored_first : (clauses : Numbered ℕ) (steps : Steps) (number : ℕ) (clause : List ℕ) (old : List Standing) (reached : List ℕ) (new : List Standing) (reached' : List ℕ) (waiting : ℕ) →
    clause_of clauses number ≡ Some clause → ((place : ℕ) → standing_at old place ≡ Untouched) → IsReaching steps clause (size_of steps) (length clause) old reached new reached' waiting → IsExplored clauses steps number new
explored_first clauses steps number clause old reached new reached' waiting live clear reaching = record {
  clause = clause;
  live = live;
  conflict = all_reached steps clause old reached new reached' waiting reaching;
  explained = λ place is. absurd (not_touched steps clause old reached new reached' waiting place Explained clear reaching (λ e. cc) (λ e. cc) is);
  named = λ place touched.
      let waits = first_waits steps clause old reached new reached' waiting place clear reaching touched in
      (number, clause, live, waits.2, inl refl);
}

-- a false literal that is not false below the current level has its place there
current_place : (clauses : Numbered ℕ) (steps : Steps) (literal place : ℕ) → IsTrail clauses steps → literal ≡ opposite (literal_at steps place) → (Contains (lower_literals steps) (opposite literal) → ⊥) → steps.start ≤ place
current_place clauses steps literal place trail is not_false =
    elim (cases_lt place steps.start) [
      | inl below ↦ absurd (not_false (subst (Contains (lower_literals steps)) (sym (ap opposite is ∙ opposite-opposite (literal_at steps place))) (lower_contains clauses steps place trail below)))
      | inr above ↦ above
    ]

-- one place of the current level waits at least
pub some_waits : (clauses : Numbered ℕ) (steps : Steps) (number : ℕ) (clause : List ℕ) (old : List Standing) (reached : List ℕ) (new : List Standing) (reached' : List ℕ) (waiting : ℕ) → IsTrail clauses steps → HasEnded clauses steps →
    clause_of clauses number ≡ Some clause → ((place : ℕ) → standing_at old place ≡ Untouched) → IsReaching steps clause (size_of steps) (length clause) old reached new reached' waiting → 0 < waiting_below new steps.start (size_of steps)
some_waits clauses steps number clause old reached new reached' waiting trail ended live clear reaching =
    let all = all_reached steps clause old reached new reached' waiting reaching in
    elim (ended number clause live) [
      | inl holds ↦
          let false_at = All-contains (IsReached steps new (size_of steps)) clause holds.0 all holds.1 in
          let true_at = lower_at clauses steps holds.0 trail holds.2 in
          absurd (clash clauses steps false_at.0 true_at.0 trail false_at.1 (omega (arith, true_at.1, trail.within)) (sym false_at.2 ∙ sym true_at.2))
      | inr two ↦
          let false_at = All-contains (IsReached steps new (size_of steps)) clause two.0 all two.2 in
          let above = current_place clauses steps two.0 false_at.0 trail false_at.2 two.5 in
          let waits = first_waits steps clause old reached new reached' waiting false_at.0 clear reaching false_at.3 in
          elim (cases_lt 0 (waiting_below new steps.start (size_of steps))) [
            | inl some ↦ some
            | inr none ↦ absurd (waiting_none new steps.start (size_of steps) false_at.0 (omega (arith, none)) above false_at.1 waits.0)
          ]
    ]

pub sweeping_first : (clauses : Numbered ℕ) (steps : Steps) (number : ℕ) (clause : List ℕ) (old : List Standing) (reached : List ℕ) (new : List Standing) (reached' : List ℕ) (waiting : ℕ) →
    clause_of clauses number ≡ Some clause → ((place : ℕ) → standing_at old place ≡ Untouched) → IsReaching steps clause (size_of steps) (length clause) old reached new reached' waiting → IsSweeping steps new (size_of steps) waiting
sweeping_first clauses steps number clause old reached new reached' waiting live clear reaching =
    let none = waiting_untouched old steps.start (size_of steps) clear in
    let counted : waiting_below new steps.start (size_of steps) ≡ waiting = omega (arith, reaching.counted, none) in
    record {
      order = omega arith;
      above = λ place past waits.
          let within = first_waits steps clause old reached new reached' waiting place clear reaching (λ none. cc) in
          omega (arith, within.1);
      none_kept = λ place. not_touched steps clause old reached new reached' waiting place Kept clear reaching (λ e. cc) (λ e. cc);
      counted = counted;
    }
