-- The search from a conflict: a place is explained by its reason, or kept.
use Rattle.std.proofs.Common.{◌≡◌, ◌≢◌, ◌⊎◌, ℕ, ◌+◌, ◌<◌, List, length, set, Some, inl, inr, refl, sym, ap, ◌∙◌, subst, arith}
use Rattle.std.specs.List.{All, Contains}
use Rattle.std.proofs.lemmas.Bool.{cases_eq}
use Rattle.std.proofs.lemmas.List.{get_or_default}
use Rattle.std.proofs.lemmas.List.Elements.{All-weaker}
use Rattle.clauses.specs.Live.{Numbered, clause_of}
use Rattle.cdcl_conflict.specs.declared.standing.Standing.{Standing}
use Rattle.cdcl_conflict.specs.declared.standing.Standing.TheVariants.{Untouched, Waiting, Explained, Kept}
use Rattle.cdcl_conflict_theory.specs.Trails.{Steps, HasReason, IsFalseBelow, size_of, literal_at, reason_at}
use Rattle.cdcl_conflict.specs.Standings.{standing_at, IsListed, IsReadable, IsReached, IsReaching, IsExplained, IsNamed, IsExplored, IsExplaining}
use Rattle.cdcl_conflict.proofs.Counting.{touched_within, standing-same, standing-other, waiting-behind}
use Rattle.cdcl_conflict.proofs.Reaching.{touched-set}

-- a place that is touched stays so
abbrev pub StaysTouched : List Standing → List Standing → Type 0
StaysTouched old new = (place : ℕ) → standing_at old place ≢ Untouched → standing_at new place ≢ Untouched

reached_stays : (steps : Steps) (old new : List Standing) (end literal : ℕ) → StaysTouched old new → IsReached steps old end literal → IsReached steps new end literal
reached_stays steps old new end literal stays reached = (reached.0, reached.1, reached.2, stays reached.0 reached.3)

explained_stays : (clauses : Numbered ℕ) (steps : Steps) (old new : List Standing) (place : ℕ) → StaysTouched old new → IsExplained clauses steps old place → IsExplained clauses steps new place
explained_stays clauses steps old new place stays explained = record {
  clause = explained.clause;
  live = explained.live;
  own = explained.own;
  others = All-weaker
      (λ other. (other ≡ literal_at steps place) ⊎ IsReached steps old place other)
      (λ other. (other ≡ literal_at steps place) ⊎ IsReached steps new place other)
      (λ other there. elim there [ inl own ↦ inl own | inr reached ↦ inr (reached_stays steps old new place other stays reached) ])
      explained.clause explained.others;
}

-- what a step of the search changes
record Grows (clauses : Numbered ℕ) (steps : Steps) (number : ℕ) (old new : List Standing) : Type 0 where
  pub touched : StaysTouched old new
  pub explained : (place : ℕ) → standing_at old place ≡ Explained → standing_at new place ≡ Explained
  pub new_explained : (place : ℕ) → standing_at new place ≡ Explained → (standing_at old place ≡ Explained) ⊎ IsExplained clauses steps new place
  pub new_touched : (place : ℕ) → standing_at new place ≢ Untouched → (standing_at old place ≢ Untouched) ⊎ IsNamed clauses steps number new place

named_stays : (clauses : Numbered ℕ) (steps : Steps) (number : ℕ) (old new : List Standing) (place : ℕ) → ((other : ℕ) → standing_at old other ≡ Explained → standing_at new other ≡ Explained) →
    IsNamed clauses steps number old place → IsNamed clauses steps number new place
named_stays clauses steps number old new place stays named = (
  named.0,
  named.1,
  named.2,
  named.3,
  elim named.4 [ inl conflict ↦ inl conflict | inr reason ↦ inr (reason.0, stays reason.0 reason.1, reason.2) ],
)

explored_grows : (clauses : Numbered ℕ) (steps : Steps) (number : ℕ) (old new : List Standing) → Grows clauses steps number old new → IsExplored clauses steps number old → IsExplored clauses steps number new
explored_grows clauses steps number old new grows explored = record {
  clause = explored.clause;
  live = explored.live;
  conflict = All-weaker (IsReached steps old (size_of steps)) (IsReached steps new (size_of steps))
      (λ literal reached. reached_stays steps old new (size_of steps) literal grows.touched reached) explored.clause explored.conflict;
  explained = λ place now.
      elim (grows.new_explained place now) [
        | inl before ↦ explained_stays clauses steps old new place grows.touched (explored.explained place before)
        | inr here ↦ here
      ];
  named = λ place now.
      elim (grows.new_touched place now) [
        | inl before ↦ named_stays clauses steps number old new place grows.explained (explored.named place before)
        | inr here ↦ here
      ];
}

pub waiting_touched : (standings : List Standing) (place : ℕ) → standing_at standings place ≡ Waiting → standing_at standings place ≢ Untouched
waiting_touched standings place waits none = cc

-- a write of a standing that is touched at a place that is
pub listed-set : (size : ℕ) (standings : List Standing) (reached : List ℕ) (place : ℕ) (new : Standing) → new ≢ Untouched → standing_at standings place ≢ Untouched → IsListed size standings reached →
    IsListed size (set standings place new) reached
listed-set size standings reached place new some touched listed =
    let within = touched_within standings place touched in
    record {
      touched = λ other now.
          elim (cases_eq other place) [
            | inl same ↦ listed.touched other (subst (λ (p : ℕ). standing_at standings p ≢ Untouched) (sym same) touched)
            | inr differs ↦ listed.touched other (λ none. now (standing-other standings place other new differs ∙ none))
          ];
      only = All-weaker (λ p. standing_at standings p ≢ Untouched) (λ p. standing_at (set standings place new) p ≢ Untouched)
          (λ p before. touched-set standings place p new some within before) reached listed.only;
      within = listed.within;
      once = listed.once;
    }

-- a place that waited is kept
pub explored-kept : (clauses : Numbered ℕ) (steps : Steps) (number : ℕ) (old : List Standing) (place : ℕ) → standing_at old place ≡ Waiting → IsExplored clauses steps number old →
    IsExplored clauses steps number (set old place Kept)
explored-kept clauses steps number old place waits explored =
    let touched = waiting_touched old place waits in
    let within = touched_within old place touched in
    let same = standing-same old place Kept within in
    explored_grows clauses steps number old (set old place Kept)
    record {
      touched = λ other before. touched-set old place other Kept (λ e. cc) within before;
      explained = λ other before.
          elim (cases_eq other place) [
            | inl here ↦ let e : standing_at old place ≡ Explained = subst (λ (p : ℕ). standing_at old p ≡ Explained) here before in cc
            | inr differs ↦ standing-other old place other Kept differs ∙ before
          ];
      new_explained = λ other now.
          elim (cases_eq other place) [
            | inl here ↦ let e : standing_at (set old place Kept) place ≡ Explained = subst (λ (p : ℕ). standing_at (set old place Kept) p ≡ Explained) here now in cc
            | inr differs ↦ inl (sym (standing-other old place other Kept differs) ∙ now)
          ];
      new_touched = λ other now.
          elim (cases_eq other place) [
            | inl here ↦ inl (subst (λ (p : ℕ). standing_at old p ≢ Untouched) (sym here) touched)
            | inr differs ↦ inl (λ none. now (standing-other old place other Kept differs ∙ none))
          ];
    }
    explored

-- which literals of a reason can be read
pub reason_readable : (clauses : Numbered ℕ) (steps : Steps) (place : ℕ) (clause : List ℕ) → place < size_of steps → HasReason clauses steps place → clause_of clauses (reason_at steps place) ≡ Some clause →
    All (IsReadable steps place) clause
reason_readable clauses steps place clause within reason live =
    let same : reason.clause ≡ clause = let e : Some reason.clause ≡ Some clause = sym reason.live ∙ live in cc in
    subst (λ (c : List ℕ). All (IsReadable steps place) c) same
    (All-weaker (λ other. (other ≡ literal_at steps place) ⊎ IsFalseBelow steps place other) (IsReadable steps place)
    (λ other there. elim there [ inl own ↦ inl (within, own) | inr lower ↦ inr lower ])
    reason.clause reason.others)

all_read : (steps : Steps) (clause : List ℕ) (place : ℕ) (old : List Standing) (reached : List ℕ) (new : List Standing) (reached' : List ℕ) (waiting : ℕ) →
    IsReaching steps clause place (length clause) old reached new reached' waiting → All (λ other. (other ≡ literal_at steps place) ⊎ IsReached steps new place other) clause
all_read steps clause place old reached new reached' waiting reaching = λ k d before.
    let P : ℕ → Type 0 = λ other. (other ≡ literal_at steps place) ⊎ IsReached steps new place other in
    subst P (get_or_default clause k 0 d before) (elim (reaching.read k before) [ inl own ↦ inl own.1 | inr there ↦ inr there ])

-- a place that waited is explained
explaining_grows : (clauses : Numbered ℕ) (steps : Steps) (number place : ℕ) (clause : List ℕ) (old : List Standing) (reached : List ℕ) (new : List Standing) (reached' : List ℕ) (waiting : ℕ) →
    HasReason clauses steps place → clause_of clauses (reason_at steps place) ≡ Some clause → standing_at old place ≡ Waiting →
    IsReaching steps clause place (length clause) (set old place Explained) reached new reached' waiting → Grows clauses steps number old new
explaining_grows clauses steps number place clause old reached new reached' waiting reason live waits reaching =
    let touched = waiting_touched old place waits in
    let within = touched_within old place touched in
    let now : List Standing = set old place Explained in
    let here : standing_at now place ≡ Explained = standing-same old place Explained within in
    let same : reason.clause ≡ clause = let e : Some reason.clause ≡ Some clause = sym reason.live ∙ live in cc in
    let end : standing_at new place ≡ Explained = elim (reaching.changes place) [ inl kept ↦ kept ∙ here | inr changed ↦ let e = changed.0 in cc ] in
    record {
      touched = λ other before.
          let mid = touched-set old place other Explained (λ e. cc) within before in
          elim (reaching.changes other) [ inl kept ↦ λ none. mid (sym kept ∙ none) | inr changed ↦ absurd (mid changed.0) ];
      explained = λ other before.
          elim (cases_eq other place) [
            | inl same' ↦ let e : standing_at old place ≡ Explained = subst (λ (p : ℕ). standing_at old p ≡ Explained) same' before in cc
            | inr differs ↦
                let mid : standing_at now other ≡ Explained = standing-other old place other Explained differs ∙ before in
                elim (reaching.changes other) [ inl kept ↦ kept ∙ mid | inr changed ↦ let e = changed.0 in cc ]
          ];
      new_explained = λ other after.
          elim (cases_eq other place) [
            | inl same' ↦ inr (subst (λ (p : ℕ). IsExplained clauses steps new p) (sym same') record {
              clause = clause;
              live = live;
              own = subst (λ (c : List ℕ). Contains c (literal_at steps place)) same reason.own;
              others = all_read steps clause place now reached new reached' waiting reaching;
            })
            | inr differs ↦ elim (reaching.changes other) [
              | inl kept ↦ inl (sym (standing-other old place other Explained differs) ∙ sym kept ∙ after)
              | inr changed ↦ let e = changed.1 in cc
            ]
          ];
      new_touched = λ other after.
          elim (reaching.changes other) [
            | inl kept ↦ elim (cases_eq other place) [
              | inl same' ↦ inl (subst (λ (p : ℕ). standing_at old p ≢ Untouched) (sym same') touched)
              | inr differs ↦ inl (λ none. after (kept ∙ standing-other old place other Explained differs ∙ none))
            ]
            | inr changed ↦ inr (reason_at steps place, clause, live, changed.3, inr (place, end, refl))
          ];
    }

pub explaining_from : (clauses : Numbered ℕ) (steps : Steps) (place : ℕ) (clause : List ℕ) (old : List Standing) (reached : List ℕ) (new : List Standing) (reached' : List ℕ) (waiting : ℕ) →
    HasReason clauses steps place → clause_of clauses (reason_at steps place) ≡ Some clause → standing_at old place ≡ Waiting →
    IsReaching steps clause place (length clause) (set old place Explained) reached new reached' waiting → IsExplaining clauses steps place old reached new reached' waiting
explaining_from clauses steps place clause old reached new reached' waiting reason live waits reaching =
    let within = touched_within old place (waiting_touched old place waits) in
    let here = standing-same old place Explained within in
    record {
      explored = λ number explored. explored_grows clauses steps number old new (explaining_grows clauses steps number place clause old reached new reached' waiting reason live waits reaching) explored;
      listed = reaching.listed;
      more = reaching.more;
      extends = reaching.extends;
      now = elim (reaching.changes place) [ inl kept ↦ kept ∙ here | inr changed ↦ let e = changed.0 in cc ];
      others = λ other differs.
          let mid = standing-other old place other Explained differs in
          elim (reaching.changes other) [ inl kept ↦ inl (kept ∙ mid) | inr changed ↦ inr (sym mid ∙ changed.0, changed.1, changed.2) ];
      counted = reaching.counted ∙ ap (λ n. n + waiting) (waiting-behind old steps.start place place Explained (omega arith));
    }
