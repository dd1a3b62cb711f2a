-- A level begins with a decision, and is taken back.
use Rattle.std.proofs.Common.{◌≡◌, ℕ, ◌<◌, List, [], ◌∷◌, length, take, subst, inl, inr, arith}
use Rattle.std.proofs.lemmas.Bool.{cases_lt}
use Rattle.std.proofs.lemmas.List.{get_or_append_left, get_or_push, get_or-take, length_push, length-take, take-take, take_all}
use Rattle.clauses.specs.Live.{Numbered}
use Rattle.cdcl_trail.specs.Path.{Path, IsPath, decided, undone, start_of, literals_to}
use Rattle.cdcl_propagation.specs.declared.watch.Pair.{Pair}
use Rattle.cdcl_propagation.specs.declared.watch.Watch.{Watch}
use Rattle.cdcl_propagation.specs.Watching.{IsWorked, IsWatched}
use Rattle.cdcl_propagation.proofs.Members.{take_grown}
use Rattle.cdcl_propagation.proofs.Working.{worked-more}

pub watched-decided : (clauses : Numbered ℕ) (pairs : List Pair) (lists : List (List Watch)) (path : Path) (head literal : ℕ) → head ≡ length path.literals
    → IsWatched clauses pairs lists path head → IsWatched clauses pairs lists (decided path literal) head
watched-decided clauses pairs lists path head literal at_end at = record {
  paired = at.paired;
  within = at.within;
  size = at.size;
  entries = at.entries;
  listed = at.listed;
  inside = let inside = at.inside in omega (arith, length_push path.literals literal);
  reasons = omega (arith, length_push path.literals literal, length_push path.reasons 0, at.reasons);
  begun = λ level inside.
      elim (cases_lt level (length path.limits)) [
        | inl before ↦
            let begun = at.begun level before in
            rw (get_or_append_left path.limits (length path.literals ∷ []) 0 level before) (omega (arith, length_push path.literals literal))
        | inr last ↦
            let same : length path.limits ≡ level = omega (arith, length_push path.limits (length path.literals)) in
            rw (get_or_push path.limits (length path.literals) 0 level same) (omega (arith, length_push path.literals literal))
      ];
  worked = rw (take_grown path.literals (literal ∷ []) head at.inside) (worked-more clauses pairs (take head path.literals) path.literals (literal ∷ []) at.worked);
  levels = λ level inside.
      let P : List ℕ → Type 0 = λ trail. IsWorked clauses pairs trail trail in
      elim (cases_lt level (length path.limits)) [
        | inl before ↦
            rw (get_or_append_left path.limits (length path.literals ∷ []) 0 level before, take_grown path.literals (literal ∷ []) (start_of path level) (at.begun level before)) (at.levels level before)
        | inr last ↦
            let same : length path.limits ≡ level = omega (arith, length_push path.limits (length path.literals)) in
            rw (get_or_push path.limits (length path.literals) 0 level same, take_grown path.literals (literal ∷ []) (length path.literals) (omega arith), take_all (length path.literals) path.literals (omega arith)) whole
      ];
}
  where
    whole : IsWorked clauses pairs path.literals path.literals
    whole =
        let P : List ℕ → Type 0 = λ done. IsWorked clauses pairs done path.literals in
        subst P (take_all head path.literals (omega arith)) at.worked

pub watched-undone : (clauses : Numbered ℕ) (pairs : List Pair) (lists : List (List Watch)) (path : Path) (head level : ℕ) → IsPath path → level < length path.limits
    → IsWatched clauses pairs lists path head → IsWatched clauses pairs lists (undone path level) (start_of path level)
watched-undone clauses pairs lists path head level is inside at = record {
  paired = at.paired;
  within = at.within;
  size = at.size;
  entries = at.entries;
  listed = at.listed;
  inside = let begun = is.begun level inside in omega (arith, length-take (start_of path level) path.literals);
  reasons = omega (arith, length-take (start_of path level) path.literals, length-take (start_of path level) path.reasons, at.reasons);
  begun = λ lower within.
      let below : lower < level = omega (arith, length-take level path.limits) in
      let rising = is.rising lower level below inside in
      let begun = is.begun level inside in
      rw (get_or-take level path.limits lower 0 below) (omega (arith, length-take (start_of path level) path.literals));
  worked = rw (take_all (start_of path level) (literals_to path level) (omega (arith, length-take (start_of path level) path.literals))) (at.levels level inside);
  levels = λ lower within.
      let below : lower < level = omega (arith, length-take level path.limits) in
      let rising = is.rising lower level below inside in
      rw (get_or-take level path.limits lower 0 below, take-take (start_of path lower) (start_of path level) path.literals (omega arith)) (at.levels lower (omega arith));
}
